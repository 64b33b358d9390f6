-- What the steps of a comparison of two plans answer. Assumes nothing: these are definitions.
use Rattle.std.specs.Prelude.{◌≡◌, List, ℕ, ◌≤◌, length, take}

-- a number of places in which two rows are equal, from the front
pub record Common (left right : List ℕ) (r : ℕ) : Type 0 where
  pub in_left : r ≤ length left
  pub in_right : r ≤ length right
  pub equal : take r left ≡ take r right

-- jobs written at the front of an area, and the place behind them. What stands behind them is left open.
pub record WrittenOut (flat : List ℕ) (r : ℕ) (area' : List ℕ) : Type 0 where
  pub next : r ≡ length flat
  pub output : take r area' ≡ flat
