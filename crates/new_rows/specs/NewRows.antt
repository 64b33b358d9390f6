-- The new rows of all jobs, beside the old ones. Assumes nothing: these are definitions.
use Rattle.std.specs.Prelude.{◌≡◌, Bool, false, List, ℕ, ◌<◌, length, get_or}
use Rattle.decompositions.specs.Decompositions.{Decomposition, Refines}
use Rattle.rows.specs.Region.{row, Within}
use Rattle.settled.specs.SettledJobs.{History}
use Rattle.facts.specs.Columns.{norms_in, jobs_in, table_by}
use Rattle.facts.specs.declared.Facts.{Facts}

-- what a round asks: the old rows are a decomposition, the new ones are the same, and for jobs that have not moved there is the round before
pub record RowsReady (facts : Facts) (old_lens old lens : List ℕ) (moved : List Bool) (region : List ℕ) : Type 0 where
  pub flags : length moved ≡ 24
  pub old_within : Within (jobs_in facts) old_lens old
  pub new_within : Within (jobs_in facts) lens region
  pub decomposition : Decomposition (table_by facts) (norms_in facts) (row old_lens old)
  pub same : (j : ℕ) → j < jobs_in facts → row lens region j ≡ row old_lens old j
  pub same_length : (j : ℕ) → j < jobs_in facts → get_or lens j 0 ≡ get_or old_lens j 0
  pub history : History facts (row old_lens old) moved

-- the new rows of all jobs; those that have not moved are the old ones
pub record NewRows (facts : Facts) (old_lens old lens : List ℕ) (moved : List Bool) (region : List ℕ) : Type 0 where
  pub flags : length moved ≡ 24
  pub within : Within (jobs_in facts) lens region
  pub refines : Refines (table_by facts) (norms_in facts) (row old_lens old) (row lens region)
  pub decomposition : Decomposition (table_by facts) (norms_in facts) (row lens region)
  pub others : (j : ℕ) → j < jobs_in facts → get_or moved j false ≡ false → row lens region j ≡ row old_lens old j
  pub others_length : (j : ℕ) → j < jobs_in facts → get_or moved j false ≡ false → get_or lens j 0 ≡ get_or old_lens j 0
