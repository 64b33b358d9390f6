-- No job is passed yet, and one more.
use Rattle.nth_row.proofs.ChosenJobs.{passing_first, passing_next}
use Rattle.nth_row.proofs.choose.Goals as goal

pub loop-job-init : goal.loop-job-init
loop-job-init c = passing_first _ _ _ _ c.requires.inside

pub loop-job-preserved : goal.loop-job-preserved
loop-job-preserved c = passing_next _ _ _ _ _ _ c.loop-job.invariant c.loop-job-test.true _ c.followers-passed.ensures c.if-left-passed.false
