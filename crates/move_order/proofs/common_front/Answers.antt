-- `move_order::common_front` meets its contract. Assumes nothing.
use Rattle.std.proofs.Common.{rules, arith}
use Rattle.comparing.proofs.CommonFronts.{common_more}
use Rattle.move_order.proofs.common_front.Goals as goal

pub loop-i-preserved : goal.loop-i-preserved
loop-i-preserved c =
    common_more c.args.left.now c.args.right.now c.loop-i.i c.loop-i.invariant 256 (omega arith) (omega arith) (search rules)
