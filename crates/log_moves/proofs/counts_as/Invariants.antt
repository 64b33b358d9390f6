-- The pairs that are left count the move as all of them do. Assumes nothing.
use Rattle.std.proofs.Common.{◌≡◌}
use Rattle.alike.specs.Alike.{replace}
use Rattle.alike_list.specs.AlikeLists.{alike_pairs}
use Rattle.log_moves.proofs.counts_as.Given as goal

abbrev pub invariant-loop-pair : goal.invariant-loop-pair
invariant-loop-pair l = record {
  whole : l.pair-iterator.size ≡ 4;
  left : replace (alike_pairs l.pair-iterator.rest.now) l.action ≡ replace (alike_pairs l.alike) l.action;
}
