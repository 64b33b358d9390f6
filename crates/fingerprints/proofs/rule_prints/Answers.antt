-- `rule_prints`: a number more is written.
use Rattle.std.proofs.Common.{arith}
use Rattle.fingerprints.proofs.RuleNumbers.{numbered_more}
use Rattle.fingerprints.proofs.rule_prints.Goals as goal

pub loop-i-preserved : goal.loop-i-preserved
loop-i-preserved c =
    numbered_more c.args.facts.now.table.rules.now c.args.prints.now c.loop-i.prints c.loop-i.i c.rule_number.result c.loop-i.invariant (omega arith)
    c.rule_number.ensures
