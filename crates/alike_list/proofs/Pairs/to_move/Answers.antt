-- `Pairs::to_move` meets its contract. Assumes nothing.
use Rattle.std.proofs.Common.{take, arith}
use Rattle.std.proofs.lemmas.List.{length-take}
use Rattle.alike_list.proofs.MoveRows.{place_next, sum_end}
use Rattle.alike_list.proofs.Pairs.to_move.Goals as goal

pub overflow_add-sum : goal.overflow_add-sum
overflow_add-sum c =
    let self = c.args.self.now in
    omega (arith, place_next self.arrays c.loop-k.k c.args.action c.from.result (omega arith) c.from.ensures, c.loop-k.invariant, self.arrays.small c.args.action)

pub loop-k-preserved : goal.loop-k-preserved
loop-k-preserved c =
    let self = c.args.self.now in
    omega (arith, place_next self.arrays c.loop-k.k c.args.action c.from.result (omega arith) c.from.ensures, c.loop-k.invariant)

pub returns : goal.returns
returns c =
    let self = c.args.self.now in
    omega (
      arith,
      c.loop-k.invariant,
      sum_end (take self.end self.froms) (take self.end self.tos) c.loop-k.k c.args.action (simp length-take (omega arith)),
    )
