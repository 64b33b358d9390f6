-- A block over the rules that stand in it. Assumes nothing: these are definitions.
use Rattle.std.specs.Prelude.{◌≡◌, List, ◌∷◌, ◌++◌, ℕ, ◌-◌, ◌/◌, ◌≤◌, ◌<◌, length, replicate}
use Rattle.area.specs.Numbers.{low_first}
use Rattle.image.specs.Image.{checksum}

-- bytes 0 to 509 of block k of so many blocks
unfoldable pub filled_body : (jobs k blocks : ℕ) → (rules : List ℕ) → List ℕ
filled_body n k b ps = n ∷ (length ps / 8) ∷ (ps ++ replicate (504 - length ps) 0 ++ low_first k ++ low_first b)

unfoldable pub filled : (jobs k blocks : ℕ) → (rules : List ℕ) → List ℕ
filled n k b ps = filled_body n k b ps ++ low_first (checksum (filled_body n k b ps))

-- what a block can be filled with
pub record Fills (jobs : ℕ) (rules block : List ℕ) : Type 0 where
  pub whole : length block ≡ 512
  pub few_rules : length rules ≤ 504
  pub few_jobs : jobs < 256
