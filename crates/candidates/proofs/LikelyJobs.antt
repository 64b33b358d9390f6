-- A job that decomposes another may do so. Assumes nothing.
use Rattle.std.proofs.Common.{List, ℕ, ◌<◌}
use Rattle.bpa.specs.Method as method
use Rattle.decompositions.specs.Decompositions.{Decomposes}
use Rattle.decompositions.proofs.NewRows.{decomposes_same_steps}
use Rattle.rows.specs.Region.{Within}
use Rattle.rows.specs.Rows.{rows_of}
use Rattle.rows.specs.declared.Rows.{Rows}
use Rattle.facts.specs.Columns.{norms_in, jobs_in, table_by}
use Rattle.facts.specs.declared.Facts.{Facts}
use Rattle.facts.proofs.TableFacts.{marks_equal}
use Rattle.candidates.specs.Candidates.{Likely}
use Rattle.candidates.proofs.JobsOfTable.{job_below}
use Rattle.candidates.proofs.RowEnds.{same_front}

pub decomposes_likely : (facts : Facts) (old : Rows) (e : method.Rows) (y x : ℕ) (tail : List ℕ) →
    Within (jobs_in facts) old.lens.now old.bytes.now → y < jobs_in facts →
    Decomposes (table_by facts) (norms_in facts) (rows_of old) e y x tail → Likely facts old e y x
decomposes_likely facts old e y x tail w hy h =
    let hx : x < jobs_in facts = job_below facts x h.is_job in
    record {
      front = same_front (jobs_in facts) old.lens.now old.bytes.now w y x hy hx tail h.fits.equal;
      mark = marks_equal facts y x hy hx (decomposes_same_steps (table_by facts) (norms_in facts) (rows_of old) e y x tail h);
      prime = h.prime;
    }
