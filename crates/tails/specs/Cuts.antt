-- Places that cut a row in two by the norm of what stands before them. Assumes nothing: these are definitions.
use Rattle.std.specs.Prelude.{◌≡◌, List, ℕ, ◌≤◌, ◌<◌, length, take}
use Rattle.bpa.specs.Norms.{sum_of}

-- a place with the norm before it; before every later place stands more than the goal
pub record CutBehind (ns row : List ℕ) (goal at norm : ℕ) : Type 0 where
  pub inside : at ≤ length row
  pub norm_is : norm ≡ sum_of ns (take at row)
  pub later : (k : ℕ) → at < k → k ≤ length row → goal < sum_of ns (take k row)

-- the last place before which no more than the goal stands
pub record Reached (ns row : List ℕ) (goal at norm : ℕ) : Type 0 where
  pub place : CutBehind ns row goal at norm
  pub enough : norm ≤ goal
