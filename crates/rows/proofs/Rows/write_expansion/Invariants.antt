-- The rows of the jobs passed are written. Assumes nothing.
use Rattle.rows.specs.Rows.{rows_of}
use Rattle.rows.proofs.WrittenPlans.{Writing}
use Rattle.rows.proofs.Rows.write_expansion.Given as goal

abbrev pub invariant-loop-job : goal.invariant-loop-job
invariant-loop-job l = Writing (rows_of l.self) l.plan l.initial.out l.at l.out l.end l.job-index
