-- The right side of a comparison: rows, and what stands behind them. Assumes nothing: these are definitions.
use Rattle.std.specs.Prelude.{◌≡◌, Bool, true, false, List, ℕ, ◌≤◌, ◌<◌, length, get_or}

-- if the answer is yes, a plan begins its next job here, and that is this job
pub record Passes (begins : Bool) (plan : List ℕ) (at job : ℕ) (answer : Bool) : Type 0 where
  pub start : answer ≡ true → begins ≡ true
  pub inside : answer ≡ true → at < length plan
  pub same : answer ≡ true → get_or plan at 0 ≡ job

-- where the right side of a comparison is read: in the rows, or behind them
unfoldable pub side : (behind : Bool) → (rows rest : List ℕ) → List ℕ
side true rows rest = rest
side false rows rest = rows

-- nothing is left of the right side
pub record RightEnds (behind : Bool) (q rest : List ℕ) (t at end : ℕ) : Type 0 where
  pub row_ends : end ≤ at
  pub rows_end : length q ≤ t
  pub rest_ends : behind ≡ false → length rest ≡ 0
