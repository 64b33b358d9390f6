-- The jobs that `choices::choose` has passed, which go by rising norm, are known. Assumes nothing.
use Rattle.choices.proofs.KnownJobs.{Known}
use Rattle.choices.proofs.choose.Given as goal

abbrev pub invariant-loop-job : goal.invariant-loop-job
invariant-loop-job l = let table = l.table in Known table.jobs table.rules.now table.norms.now l.job-items l.low l.rows l.job-index
