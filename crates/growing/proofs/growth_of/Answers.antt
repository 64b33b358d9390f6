-- Twice the jobs that are reached, and one more if some comes back.
use Rattle.bpa.specs.Plans.{over}
use Rattle.bpa.proofs.Basics.JobsBelow.{below_more}
use Rattle.rules.specs.Places.{table_of}
use Rattle.growing.proofs.AnyJob.{test_number}
use Rattle.growing.proofs.ReachedBits.{growth_is}
use Rattle.growing.proofs.growth_of.Goals as goal

pub plan_bits-requires : goal.plan_bits-requires
plan_bits-requires c = below_more c.args.rules.now.jobs 24 c.args.plan.now c.args.rules.now.good.jobs c.requires

pub returns : goal.returns
unfolding over table_of
returns c =
    let rules = c.args.rules.now in
    rw (c.from.ensures, test_number) (growth_is rules.jobs rules.bytes.now rules.good c.job_sets-sets.result c.job_sets-sets.ensures c.args.plan.now c.requires
    c.plan_bits.result c.closure-reached.result c.plan_bits.ensures c.closure-reached.ensures c.grows.result c.grows.ensures)
