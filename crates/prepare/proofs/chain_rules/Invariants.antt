-- From the last rule to the first, the chains of the rules passed are whole. Assumes nothing.
use Rattle.prepare.proofs.ChainsMade.{Begun, Linked}
use Rattle.prepare.proofs.chain_rules.Given as goal

abbrev pub invariant-loop-i : goal.invariant-loop-i
invariant-loop-i l = record { begun : Begun l.rules.bytes.now l.first l.i; linked : Linked l.rules.bytes.now l.next l.i }
