-- The rows that begin with the jobs passed come before the index, and some job is left that reaches it.
use Rattle.nth_row.proofs.ChosenJobs.{Passing}
use Rattle.nth_row.proofs.choose.Given as goal

abbrev pub invariant-loop-job : goal.invariant-loop-job
invariant-loop-job l = Passing l.counts l.whole l.weights l.index l.job l.left
