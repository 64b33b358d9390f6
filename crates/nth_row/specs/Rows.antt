-- The row of a weight at an index: its first job, and the row in the first bytes of an array. Assumes nothing: these are definitions.
use Rattle.std.specs.Prelude.{◌≡◌, List, [], ℕ, ◌+◌, ◌<◌, length, get_or, take}
use Rattle.row_counts.specs.Counts.{follow_count, total}
use Rattle.nth_row.specs.declared.Choice.{Choice}
use Rattle.nth_row.specs.declared.row.Row.{Row}

-- THE FIRST JOB of the row at an index: the rows that begin with lesser jobs come before it, and what follows it has an index of its own
pub record Chosen (counts : List ℕ) (whole : ℕ) (weights : List ℕ) (index : ℕ) (choice : Choice) : Type 0 where
  pub inside : choice.job < length weights
  pub there : choice.index < follow_count counts whole (get_or weights choice.job 0)
  pub before : index ≡ total counts whole (take choice.job weights) + choice.index

-- the row at an index of a list
abbrev pub IsRow : (rows : List (List ℕ)) → (index : ℕ) → Row → Type 0
IsRow rows index row = take row.len row.jobs ≡ get_or rows index []
