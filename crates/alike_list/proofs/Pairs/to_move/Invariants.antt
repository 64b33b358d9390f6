-- The sum so far and that of what is left are the whole. Assumes nothing.
use Rattle.std.proofs.Common.{◌≡◌, ◌+◌, take, drop}
use Rattle.alike_list.specs.PairArrays.{sum_at}
use Rattle.alike_list.proofs.Pairs.to_move.Given as goal

abbrev pub invariant-loop-k : goal.invariant-loop-k
invariant-loop-k l =
    l.sum + sum_at (drop l.k (take l.self.end l.self.froms)) (drop l.k (take l.self.end l.self.tos)) l.action
    ≡ sum_at (take l.self.end l.self.froms) (take l.self.end l.self.tos) l.action
