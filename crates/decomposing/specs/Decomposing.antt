-- What working out the new row of a job asks and gives. Assumes nothing: these are definitions.
use Rattle.std.specs.Prelude.{◌≡◌, true, List, ℕ, ◌≤◌, ◌<◌, length, get_or}
use Rattle.std.proofs.Math.Seq.{slice}
use Rattle.bpa.specs.Method as method
use Rattle.decompositions.specs.Decompositions.{Decomposed, Decomposition, NewRow, Refined}
use Rattle.rows.specs.Region.{Within}
use Rattle.rows.specs.Rows.{rows_of}
use Rattle.rows.specs.declared.Rows.{Rows}
use Rattle.facts.specs.Columns.{norms_in, order_in, jobs_in, bytes_in, table_by}
use Rattle.facts.specs.declared.Facts.{Facts}
use Rattle.fingerprints.specs.Fingerprints.{Printed, RulePrints}
use Rattle.fingerprints.specs.declared.Prints.{Prints}

-- the new rows of all jobs before y are right
abbrev pub EarlierRows : Facts → (d e : method.Rows) → (y : ℕ) → Type 0
EarlierRows facts d e y =
    (j : ℕ) → j < jobs_in facts → method.precedes (norms_in facts) j y ≡ true →
    Refined (table_by facts) (norms_in facts) d e j × Decomposed (table_by facts) (norms_in facts) e j

-- WHAT THE NEW ROW of the job at a place asks: the old rows are a decomposition, and the new rows of all jobs before it are right
pub record Decomposable (facts : Facts) (prints : Prints) (old new : Rows) (place : ℕ) : Type 0 where
  pub old_within : Within (jobs_in facts) old.lens.now old.bytes.now
  pub new_within : Within (jobs_in facts) new.lens.now new.bytes.now
  pub printed : Printed (jobs_in facts) (rows_of old) prints
  pub rule_printed : RulePrints (bytes_in facts) prints
  pub inside : place < jobs_in facts
  pub decomposition : Decomposition (table_by facts) (norms_in facts) (rows_of old)
  pub earlier : EarlierRows facts (rows_of old) (rows_of new) (get_or (order_in facts) place 0)

-- THE NEW ROW in a part of an area of 512 bytes
pub record RowWritten (facts : Facts) (d e : method.Rows) (y : ℕ) (out : List ℕ) (from to : ℕ) : Type 0 where
  pub size : length out ≡ 512
  pub some : from < to
  pub short : to ≤ 512
  pub is : NewRow (table_by facts) (norms_in facts) d e y (slice from to out)
