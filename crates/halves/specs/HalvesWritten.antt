-- The first rows, and new rows that become the old ones. Assumes nothing: these are definitions.
use Rattle.std.specs.Prelude.{◌≡◌, Bool, false, List, ℕ, ◌<◌, length, get_or}
use Rattle.decompositions.specs.Decompositions.{FirstRows}
use Rattle.rows.specs.Region.{row, Within}
use Rattle.facts.specs.Columns.{norms_in, jobs_in, table_by}
use Rattle.facts.specs.declared.Facts.{Facts}

-- the first rows in a region
pub record FirstIn (facts : Facts) (lens region : List ℕ) : Type 0 where
  pub within : Within (jobs_in facts) lens region
  pub first : FirstRows (table_by facts) (norms_in facts) (row lens region)

-- what the copy of all rows that have moved asks: the others are the same already
pub record CanKeep (jobs : ℕ) (lens new : List ℕ) (moved : List Bool) (old : List ℕ) : Type 0 where
  pub size : length old ≡ 12288
  pub within : Within jobs lens new
  pub others : (j : ℕ) → j < jobs → get_or moved j false ≡ false → row lens old j ≡ row lens new j

-- the new rows are the old ones
pub record Kept (jobs : ℕ) (lens new before after : List ℕ) : Type 0 where
  pub size : length after ≡ length before
  pub old_are : (j : ℕ) → j < jobs → row lens after j ≡ row lens new j
