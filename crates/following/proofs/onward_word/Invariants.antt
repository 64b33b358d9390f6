-- The bits that are left, and what was reached by those before.
use Rattle.following.proofs.WordWalk.{Walking}
use Rattle.following.proofs.onward_word.Given as goal

abbrev pub invariant-loop-bits : goal.invariant-loop-bits
invariant-loop-bits l = Walking l.cells l.fn.first l.fn.word l.fn.start l.reach l.bits l.cell

abbrev pub decreases-loop-bits : goal.decreases-loop-bits
decreases-loop-bits l = l.bits
