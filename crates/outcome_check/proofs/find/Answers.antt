-- `outcome_check::find` meets its contract. Assumes nothing.
use Rattle.std.proofs.Common.{◌∙◌, arith, rules}
use Rattle.rules.specs.Places.{rule_at}
use Rattle.rules.proofs.ListLaws.{good_rule}
use Rattle.outcome_check.specs.RuleTrees.{SameStart}
use Rattle.outcome_check.proofs.Searches.{begins, goes_on, ends}
use Rattle.outcome_check.proofs.find.Goals as goal

pub loop-i-init : goal.loop-i-init
loop-i-init c =
    let table = c.args.rules.now in
    let good = (good_rule table.jobs table.bytes.now table.good c.args.i c.requires.there).job in
    begins table.bytes.now c.args.slots.now c.args.i c.job.result c.from-action.result c.job.ensures.0
    (c.from-action.ensures ∙ c.action.ensures) (omega (arith, good, table.good.jobs))

pub returns-then-k-ge-RULES-clause-free : goal.returns-then-k-ge-RULES-clause-free
returns-then-k-ge-RULES-clause-free c =
    ends c.args.rules.now.bytes.now c.args.slots.now c.args.i c.loop-i.slot c.loop-i.rest c.loop-i.invariant (omega (arith, c.from-k.ensures))

pub loop-i-preserved : goal.loop-i-preserved
loop-i-preserved c =
    let rs = c.args.rules.now.bytes.now in
    let k = c.from-k.result in
    let rises = c.requires.rising c.loop-i.slot (omega (arith, c.loop-i.invariant.low)) (omega (arith, c.from-k.ensures)) in
    let other : SameStart (rule_at rs k) (rule_at rs c.args.i) → ⊥ = search rules in
    goes_on rs c.args.slots.now c.args.i c.loop-i.slot c.loop-i.rest c.loop-i.invariant k c.from-k.ensures (omega arith)
    (omega (arith, rises.0, c.from-k.ensures)) other
