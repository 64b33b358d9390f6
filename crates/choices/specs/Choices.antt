-- The rows of short jobs, kept once a rule is chosen. Assumes nothing: these are definitions.
use Rattle.std.specs.Prelude.{◌≡◌, List, ℕ, ◌≤◌, get_or}
use Rattle.area.specs.Numbers.{all_low_first}
use Rattle.lowering.specs.Lowering.{run_by, short_row}

-- the row of a job, if it is short, is the run by a rule; the other rows are kept
pub record Keeps (n : ℕ) (rs ns : List ℕ) (job rule : ℕ) (rows rows' : List ℕ) : Type 0 where
  pub row : get_or ns job 0 ≤ 85 → short_row ns rows' job ≡ all_low_first (run_by n rs rule)
  pub others : (j : ℕ) → (j ≡ job → ⊥) → get_or ns j 0 ≤ 85 → short_row ns rows' j ≡ short_row ns rows j
