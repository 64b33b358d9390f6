-- First the pairs so far stand in the two rows, and no from-move stood twice; then no to-move so far is a from-move. Assumes nothing.
use Rattle.std.proofs.Common.{◌≡◌, ◌/◌, length, drop}
use Rattle.alike.specs.Alike.{from_as_to}
use Rattle.alike_list.specs.AlikeLists.{alike_pairs}
use Rattle.alike_list.specs.PairArrays.{WholePairs}
use Rattle.alike_list.proofs.ReadPairs.{Read}
use Rattle.alike_list.proofs.read_list.Given as goal

abbrev pub invariant-loop-k : goal.invariant-loop-k
invariant-loop-k l = (w : WholePairs l.list (length l.list / 4)) × Read w l.k l.froms l.tos

abbrev pub invariant-loop-to : goal.invariant-loop-to
invariant-loop-to l = from_as_to (alike_pairs l.list) (drop l.to-index (alike_pairs l.list)) ≡ from_as_to (alike_pairs l.list) (alike_pairs l.list)
