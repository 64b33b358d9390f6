-- No job yet, and one job more.
use mathlib.Core.Path.{sym, subst}
use Prim.Native.Nat.{ℕ, ◌+◌}
use native.Mathlib.Omega.{arith}
use native.Mathlib.Numerals.{add-one}
use lib.Bits.{bit_or}
use lib.ListN.{get_or, take}
use Rattle.bpa.proofs.Basics.JobsBelow.{below_at}
use Rattle.bits.proofs.PlaceBits.{shifted}
use Rattle.job_bits.specs.JobBits.{PlanBits}
use Rattle.job_bits.proofs.BitsOfJobs.{plan_none, plan_more}
use Rattle.job_bits.proofs.plan_bits.Goals as goal

pub loop-job-init : goal.loop-job-init
loop-job-init c = plan_none c.args.plan.now

pub overflow_shl-bits : goal.overflow_shl-bits
overflow_shl-bits c = omega (arith, below_at 24 c.args.plan.now c.loop-job.job-index c.requires c.loop-job-test.true)

pub loop-job-preserved : goal.loop-job-preserved
loop-job-preserved c =
    let plan = c.args.plan.now in
    let i = c.loop-job.job-index in
    let h = below_at 24 plan i c.requires c.loop-job-test.true in
    subst (λ (n : ℕ). PlanBits (take (i + 1) plan) (bit_or c.loop-job.bits n)) (sym (shifted 32 (get_or plan i 0) (omega (arith, h))))
    (rw (add-one) (plan_more plan i c.loop-job.bits c.loop-job-test.true h c.loop-job.invariant))
