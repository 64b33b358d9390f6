-- What is left of the rows and of the jobs has their leftmost difference, and the places passed of a row are equal. Assumes nothing.
use Rattle.rows.specs.Rows.{rows_of}
use Rattle.comparing.specs.Comparisons.{Common}
use Rattle.comparing.proofs.Rests.{SameRests}
use Rattle.comparing.proofs.difference.Given as goal

abbrev pub invariant-loop-job : goal.invariant-loop-job
invariant-loop-job l = SameRests (rows_of l.rows) l.plan l.flat l.job-index l.rest

abbrev pub invariant-loop-k : goal.invariant-loop-k
invariant-loop-k l = Common l.row l.rest l.k
