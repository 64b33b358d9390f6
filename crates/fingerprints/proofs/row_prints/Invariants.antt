-- `row_prints`: the rows of the jobs before the next have their fingerprints.
use Rattle.rows.specs.Rows.{rows_of}
use Rattle.fingerprints.proofs.Columns.{Printing}
use Rattle.fingerprints.proofs.row_prints.Given as goal

abbrev pub invariant-loop-job : goal.invariant-loop-job
invariant-loop-job l = Printing l.jobs (rows_of l.rows) l.moved l.prints l.job
