-- The rules passed have given what they can. Assumes nothing.
use Rattle.norm.proofs.RoundPass.{Passed, cap_positive}
use Rattle.norm.proofs.round.Given as goal

abbrev pub invariant-loop-i : goal.invariant-loop-i
invariant-loop-i l = Passed 513 cap_positive l.rules.jobs l.old l.rules.bytes.now l.i l.new
