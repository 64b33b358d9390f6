-- `log_moves::counted_moves` meets its contract. Assumes nothing.
use Rattle.std.proofs.Common.{ap, ◌∙◌, arith}
use Rattle.alike.specs.Alike.{replace}
use Rattle.alike_list.specs.AlikeLists.{alike_pairs}
use Rattle.log_moves.proofs.LogMoves.{counted_more, counted_all}
use Rattle.log_moves.proofs.counted_moves.Goals as goal

pub loop-k-preserved : goal.loop-k-preserved
loop-k-preserved c =
    counted_more c.args.alike.now c.args.log.now c.loop-k.moves c.loop-k.k c.counts_as.result c.requires (omega arith)
    (c.counts_as.ensures ∙ ap (replace (alike_pairs c.args.alike.now)) c.move_at.ensures.is) c.loop-k.invariant

pub returns : goal.returns
returns c = counted_all c.args.alike.now c.args.log.now c.loop-k.moves c.loop-k.k (omega arith) c.loop-k.invariant
