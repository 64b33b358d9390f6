-- The rule is still ahead. Assumes nothing.
use Rattle.moves.proofs.PassOverRules.{Passing}
use Rattle.moves.proofs.find_in.Given as goal

abbrev pub invariant-loop-at : goal.invariant-loop-at
invariant-loop-at l = Passing l.bytes l.job l.index l.left l.links l.last l.at
