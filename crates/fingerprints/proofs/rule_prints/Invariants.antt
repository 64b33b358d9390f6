-- `rule_prints`: the rules before the next have their numbers.
use Rattle.fingerprints.proofs.RuleNumbers.{Numbered}
use Rattle.fingerprints.proofs.rule_prints.Given as goal

abbrev pub invariant-loop-i : goal.invariant-loop-i
invariant-loop-i l = Numbered l.facts.table.rules.now l.initial.prints l.prints l.i
