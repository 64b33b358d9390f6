-- The numbers of rows of each lesser weight stand at their places.
use Rattle.row_counts.specs.Counts.{Counts}
use Rattle.row_counts.proofs.counts.Given as goal

abbrev pub invariant-loop-whole : goal.invariant-loop-whole
invariant-loop-whole l = Counts l.weights l.whole l.counts
