-- What `runs::write_run` has written, with the first runs of the jobs left, is the plan's first run. Assumes nothing.
use Rattle.runs.proofs.PlanRun.{Writing}
use Rattle.runs.proofs.write_run.Given as goal

abbrev pub invariant-loop-job : goal.invariant-loop-job
invariant-loop-job l = let table = l.kept.table in Writing table.jobs table.rules.now table.norms.now l.plan l.job-index l.to l.out
