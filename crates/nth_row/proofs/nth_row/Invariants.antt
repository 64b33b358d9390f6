-- The jobs so far, and then the row of what is left of the weight at its own index, are the row.
use Rattle.nth_row.proofs.ChosenJobs.{Writing}
use Rattle.nth_row.proofs.nth_row.Given as goal

abbrev pub invariant-loop-left : goal.invariant-loop-left
invariant-loop-left l = Writing l.weights l.weight l.index l.jobs l.len l.left l.k

abbrev pub decreases-loop-left : goal.decreases-loop-left
decreases-loop-left l = l.left
