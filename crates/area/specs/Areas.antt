-- Bytes as numbers, and bytes put into an area. Assumes nothing: these are definitions.
use Rattle.std.specs.Prelude.{◌≡◌, List, ◌++◌, ℕ, ◌+◌, ◌<◌, length, take, drop}

-- a number that is a byte
pub record IsByte (part r : ℕ) : Type 0 where
  pub is : r ≡ part
  pub small : r < 256

-- an area with new bytes at a place
unfoldable pub put : (at : ℕ) → (new area : List ℕ) → List ℕ
put i new xs = take i xs ++ (new ++ drop (i + length new) xs)

-- an area in which bytes were put, and the place behind them
pub record IsPut (at : ℕ) (bytes area : List ℕ) (r : ℕ) (area' : List ℕ) : Type 0 where
  pub next : r ≡ at + length bytes
  pub output : area' ≡ put at bytes area
