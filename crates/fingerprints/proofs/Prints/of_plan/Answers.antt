-- `Prints::of_plan`: each job's row behind those before it.
use Rattle.std.proofs.Common.{arith}
use Rattle.bpa.proofs.Basics.JobsBelow.{below_at}
use Rattle.fingerprints.proofs.Digits.{joining_first, joining_more, joining_last}
use Rattle.fingerprints.proofs.Prints.of_plan.Goals as goal

pub loop-job-init : goal.loop-job-init
loop-job-init c = joining_first c.args.self.now c.args.plan.now

pub of_job-requires : goal.of_job-requires
of_job-requires c = omega (arith, c.from.ensures, below_at 24 c.args.plan.now c.loop-job.job-index c.requires c.loop-job-test.true)

pub loop-job-preserved : goal.loop-job-preserved
loop-job-preserved c =
    joining_more c.args.self.now c.args.plan.now c.loop-job.print c.loop-job.job-index c.loop-job.invariant c.from.result c.of_job.result
    c.then-print.result c.loop-job-test.true c.from.ensures c.of_job.ensures.0 c.of_job.ensures.1 c.then-print.ensures

pub returns : goal.returns
returns c = joining_last c.args.self.now c.args.plan.now c.loop-job.print c.loop-job.job-index c.loop-job.invariant (omega arith)
