-- The first job, and one job more.
use mathlib.Core.Path.{◌∙◌}
use Prim.Native.Nat.{◌+◌}
use native.Mathlib.Omega.{arith}
use Rattle.bpa.proofs.Basics.JobsBelow.{below_at}
use Rattle.following.proofs.PlanWalk.{rest_inside, rest_at, follow_begins, follow_more, follow_stops}
use Rattle.following.proofs.follow.Goals as goal

pub reach_at-reach-requires : goal.reach_at-reach-requires
reach_at-reach-requires c = omega (arith, c.from.ensures, below_at 24 c.args.plan.now 0 c.requires.jobs c.requires.some)

pub loop-job-init : goal.loop-job-init
loop-job-init c =
    follow_begins c.args.cells.now c.args.plan.now c.args.left c.reach_at-reach.result c.from.result c.from.ensures c.requires.some
    c.reach_at-reach.ensures

pub returns-then-reach-eq0 : goal.returns-then-reach-eq0
returns-then-reach-eq0 c =
    follow_stops c.args.cells.now c.args.plan.now c.args.left c.loop-job.reach _ c.loop-job.invariant c.if-reach-eq0.true

pub onward-reach-requires : goal.onward-reach-requires
onward-reach-requires c =
    let k = c.loop-job.job-index in
    let plan = c.args.plan.now in
    rw (c.from-in-loop-job.ensures, rest_at plan k c.loop-job-test.true) (below_at 24 plan (k + 1) c.requires.jobs (rest_inside plan k c.loop-job-test.true))

pub loop-job-preserved : goal.loop-job-preserved
loop-job-preserved c =
    let k = c.loop-job.job-index in
    let plan = c.args.plan.now in
    follow_more c.args.cells.now plan c.args.left c.loop-job.reach _ c.loop-job.invariant c.onward-reach.result c.from-in-loop-job.result
    (c.from-in-loop-job.ensures ∙ rest_at plan k c.loop-job-test.true) (rest_inside plan k c.loop-job-test.true) c.onward-reach.ensures
