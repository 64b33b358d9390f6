-- `norm::long_sum` meets its contract. Assumes nothing.
use Rattle.std.proofs.Common.{ℕ, get_or, ap, ◌∙◌, arith}
use Rattle.bpa.proofs.Basics.JobsBelow.{below_at}
use Rattle.bpa.proofs.Basics.Plans.{sum_at, sum_end}
use Rattle.norm.proofs.long_sum.Goals as goal

pub bounds-numbers-from : goal.bounds-numbers-from
bounds-numbers-from c = omega (arith, c.from.ensures, below_at 24 c.args.plan.now c.loop-job.job-index c.requires c.loop-job-test.true)

pub returns-then-over : goal.returns-then-over
returns-then-over c =
    let e = sum_at c.args.numbers.now c.args.plan.now c.loop-job.job-index c.loop-job-test.true in
    let d = c.from-sum.ensures ∙ ap (λ (x : ℕ). get_or c.args.numbers.now x 0) c.from.ensures in
    omega (arith, d, e, c.loop-job.invariant.counted)

pub loop-job-preserved : goal.loop-job-preserved
loop-job-preserved c =
    let e = sum_at c.args.numbers.now c.args.plan.now c.loop-job.job-index c.loop-job-test.true in
    let d = c.from-sum.ensures ∙ ap (λ (x : ℕ). get_or c.args.numbers.now x 0) c.from.ensures in
    record { small = omega arith; counted = omega (arith, d, e, c.loop-job.invariant.counted) }

pub returns : goal.returns
returns c =
    let e = sum_end c.args.numbers.now c.args.plan.now c.loop-job.job-index c.loop-job-test.false in
    omega (arith, c.loop-job.invariant.counted)
