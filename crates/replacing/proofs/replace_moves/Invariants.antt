-- The places passed have their moves replaced, and the others are as they were. Assumes nothing.
use Rattle.std.proofs.Common.{◌≡◌, true}
use Rattle.rules.proofs.ChangedPlaces.{passed}
use Rattle.alike_list.specs.PairArrays.{counts_as}
use Rattle.replacing.specs.ReplacedMoves.{moved}
use Rattle.replacing.proofs.ReplacedPlaces.{moved_size}
use Rattle.replacing.proofs.replace_moves.Given as goal

abbrev pub invariant-loop-i : goal.invariant-loop-i
invariant-loop-i l =
    let f = counts_as l.pairs.froms l.pairs.tos l.pairs.end in
    l.rules ≡ passed (moved f) (λ y. true) (moved_size f) l.i l.fn.rules
