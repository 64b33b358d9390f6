use Rattle.facts.specs.Columns.{norms_in}
use Rattle.tails.specs.Cuts.{CutBehind}
use Rattle.tails.proofs.Cut.move_back.Given as goal

abbrev pub invariant-loop-self : goal.invariant-loop-self
invariant-loop-self l = CutBehind (norms_in l.facts) l.row l.goal l.self.at l.self.norm

abbrev pub decreases-loop-self : goal.decreases-loop-self
decreases-loop-self l = l.self.at
