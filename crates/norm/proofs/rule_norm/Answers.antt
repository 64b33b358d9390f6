-- `norm::rule_norm` meets its contract. Assumes nothing.
use Rattle.std.proofs.Common.{ℕ, get_or, min, sym, ap, ◌∙◌, arith, rules}
use Rattle.bpa.proofs.Basics.JobsBelow.{below_at}
use Rattle.norm.proofs.RuleNorm.{counted_none, counted_unknown, counted_more, counted_all}
use Rattle.norm.proofs.rule_norm.Goals as goal

pub loop-job-init : goal.loop-job-init
loop-job-init c = record { small = omega arith; counted = counted_none c.args.norms.now c.args.after.now }

pub bounds-norms-from : goal.bounds-norms-from
bounds-norms-from c = omega (arith, c.from.ensures, below_at 24 c.args.after.now c.loop-job.job-index c.requires.after_value c.loop-job-test.true)

pub returns-then-n-eq0 : goal.returns-then-n-eq0
returns-then-n-eq0 c =
    let l = c.loop-job in
    let is = c.from-n.ensures ∙ ap (λ (x : ℕ). get_or c.args.norms.now x 0) c.from.ensures in
    ap (min 513) (sym (counted_unknown c.args.norms.now c.args.after.now l.sum l.job-index c.from-n.result c.loop-job-test.true is l.invariant.counted c.if-n-eq0.true))

pub loop-job-preserved : goal.loop-job-preserved
loop-job-preserved c =
    let l = c.loop-job in
    let is = c.from-n.ensures ∙ ap (λ (x : ℕ). get_or c.args.norms.now x 0) c.from.ensures in
    record {
      small = search rules;
      counted = counted_more c.args.norms.now c.args.after.now l.sum l.job-index c.from-n.result c.loop-job-test.true is l.invariant.counted (omega arith);
    }

pub returns : goal.returns
returns c =
    let l = c.loop-job in
    omega (arith, c.min.ensures, counted_all c.args.norms.now c.args.after.now l.sum l.job-index c.loop-job-test.false l.invariant.counted)
