-- Jobs whose new row is their old one, by what has moved since they were decomposed. Assumes nothing: these are definitions.
use Rattle.std.specs.Prelude.{◌≡◌, Bool, true, false, List, ℕ, ◌<◌, length, get_or}
use Rattle.bpa.specs.Method as method
use Rattle.decompositions.specs.Decompositions.{Decomposed, Decomposition, NewRow, Refined, Refines}
use Rattle.rules.specs.Places.{rule_at, rule_count}
use Rattle.rows.specs.Region.{Within}
use Rattle.rows.specs.Rows.{rows_of}
use Rattle.rows.specs.declared.Rows.{Rows}
use Rattle.facts.specs.Columns.{norms_in, jobs_in, table_by}
use Rattle.facts.specs.declared.Facts.{Facts}

-- no job of a row has moved
abbrev pub Unmoved : (moved : List Bool) → (row : List ℕ) → Type 0
Unmoved moved row = (i : ℕ) → i < length row → get_or moved (get_or row i 0) false ≡ false

-- no job after a rule of a job has moved
abbrev pub Untouched : (rules : List ℕ) → (moved : List Bool) → (job : ℕ) → Type 0
Untouched rs moved j = (i : ℕ) → i < rule_count rs → (rule_at rs i).job ≡ j → Unmoved moved (rule_at rs i).after

-- THE ROUND BEFORE: rows of which the old ones are a refinement, equal to them for each job that has not moved; if every job has moved,
-- there need not be any
pub record History (facts : Facts) (d : method.Rows) (moved : List Bool) : Type 0 where
  pub before : method.Rows
  pub decomposition : (j : ℕ) → j < jobs_in facts → get_or moved j false ≡ false → Decomposition (table_by facts) (norms_in facts) before
  pub refines : (j : ℕ) → j < jobs_in facts → get_or moved j false ≡ false → Refines (table_by facts) (norms_in facts) before d
  pub same : (j : ℕ) → j < jobs_in facts → get_or moved j false ≡ false → before j ≡ d j

-- what the question asks: the old rows are a decomposition, made in the round before
pub record Settling (facts : Facts) (old : Rows) (moved : List Bool) (y : ℕ) : Type 0 where
  pub is_job : y < jobs_in facts
  pub within : Within (jobs_in facts) old.lens.now old.bytes.now
  pub decomposition : Decomposition (table_by facts) (norms_in facts) (rows_of old)
  pub history : History facts (rows_of old) moved

-- new rows of the jobs before y in the order: refined, and the old ones for each job that has not moved
pub record EarlierRefined (facts : Facts) (d e : method.Rows) (moved : List Bool) (y : ℕ) : Type 0 where
  pub decomposed : (j : ℕ) → j < jobs_in facts → method.precedes (norms_in facts) j y ≡ true → Decomposed (table_by facts) (norms_in facts) e j
  pub same : (j : ℕ) → j < jobs_in facts → method.precedes (norms_in facts) j y ≡ true → get_or moved j false ≡ false → e j ≡ d j
  pub refined : (j : ℕ) → j < jobs_in facts → method.precedes (norms_in facts) j y ≡ true → Refined (table_by facts) (norms_in facts) d e j

-- if the answer is yes, the new row is the old one, whatever the new rows of earlier jobs are
pub record Settles (facts : Facts) (d : method.Rows) (moved : List Bool) (y : ℕ) (out : Bool) : Type 0 where
  pub row_kept : out ≡ true → (e : method.Rows) → EarlierRefined facts d e moved y → NewRow (table_by facts) (norms_in facts) d e y (d y)
