-- `norm::round` meets its contract. Assumes nothing.
use Rattle.std.proofs.Common.{ℕ, ◌<◌, List, min, ap, ◌∙◌, arith}
use Rattle.bpa.proofs.Basics.JobsBelow.{below_more}
use Rattle.rules.specs.Places.{rule_count}
use Rattle.rules.proofs.ListLaws.{good_rule}
use Rattle.norm.specs.NormArrays.{norm_by}
use Rattle.norm.proofs.RoundPass.{cap_positive, passed_none, passed_more, passed_all}
use Rattle.norm.proofs.round.Goals as goal

pub loop-i-init : goal.loop-i-init
loop-i-init c = passed_none 513 cap_positive c.args.rules.now.jobs c.args.old.now c.args.rules.now.bytes.now

pub rule_norm-requires-clause-after_value : goal.rule_norm-requires-clause-after_value
rule_norm-requires-clause-after_value c = below_more c.args.rules.now.jobs 24 _ c.args.rules.now.good.jobs c.after.ensures.jobs

pub loop-i-preserved : goal.loop-i-preserved
loop-i-preserved c =
    let r = c.args.rules.now in
    let l = c.loop-i in
    let h : l.i < rule_count r.bytes.now = omega (arith, c.count-i-end.ensures.0, c.loop-i-test.true) in
    passed_more 513 cap_positive r.jobs c.args.old.now r.bytes.now l.i l.new c.rule_norm.result h
    (good_rule r.jobs r.bytes.now r.good l.i h).job r.good.jobs
    (c.rule_norm.ensures ∙ ap (λ (w : List ℕ). min 513 (norm_by c.args.old.now w)) c.after.ensures.after)
    l.invariant c.job-job.result c.lesser_of.result c.job-job.ensures.0 c.lesser_of.ensures

pub returns : goal.returns
returns c =
    let r = c.args.rules.now in
    let l = c.loop-i in
    record {
      size = l.invariant.size;
      agree = passed_all 513 cap_positive r.jobs c.args.old.now r.bytes.now l.i l.new (omega (arith, c.count-i-end.ensures.0, c.loop-i-test.false)) l.invariant;
    }
