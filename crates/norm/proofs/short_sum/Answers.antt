-- `norm::short_sum` meets its contract. Assumes nothing.
use Rattle.std.proofs.Common.{ℕ, get_or, ap, ◌∙◌, arith, rules}
use Rattle.bpa.proofs.Basics.JobsBelow.{below_at}
use Rattle.bpa.proofs.Basics.Plans.{sum_at, sum_end}
use Rattle.norm.proofs.short_sum.Goals as goal

pub bounds-numbers-from : goal.bounds-numbers-from
bounds-numbers-from c = omega (arith, c.from.ensures, below_at 24 c.args.plan.now c.loop-job.job-index c.requires.plan_value c.loop-job-test.true)

pub loop-job-preserved : goal.loop-job-preserved
loop-job-preserved c =
    let k = c.loop-job.job-index in
    let e = sum_at c.args.numbers.now c.args.plan.now k c.loop-job-test.true in
    let d = c.from-sum.ensures ∙ ap (λ (x : ℕ). get_or c.args.numbers.now x 0) c.from.ensures in
    record {
      small = search rules;
      counted = omega (arith, d, e, c.loop-job.invariant.counted);
    }

pub returns : goal.returns
returns c =
    let e = sum_end c.args.numbers.now c.args.plan.now c.loop-job.job-index c.loop-job-test.false in
    omega (arith, c.loop-job.invariant.counted)
