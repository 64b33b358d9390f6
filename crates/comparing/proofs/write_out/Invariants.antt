-- The rows of the jobs passed are written. Assumes nothing.
use Rattle.rows.specs.Rows.{rows_of}
use Rattle.comparing.proofs.WrittenOut.{WritingOut}
use Rattle.comparing.proofs.write_out.Given as goal

abbrev pub invariant-loop-job : goal.invariant-loop-job
invariant-loop-job l = WritingOut (rows_of l.rows) l.plan l.out l.end l.job-index
