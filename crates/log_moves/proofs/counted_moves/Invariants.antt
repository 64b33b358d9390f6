-- The moves so far stand at the front. Assumes nothing.
use Rattle.log_moves.proofs.LogMoves.{Counted}
use Rattle.log_moves.proofs.counted_moves.Given as goal

abbrev pub invariant-loop-k : goal.invariant-loop-k
invariant-loop-k l = Counted l.alike l.log l.moves l.k
