-- `comparing::common` meets its contract. Assumes nothing.
use Rattle.std.proofs.Common.{arith, rules}
use Rattle.comparing.proofs.CommonFronts.{common_more}
use Rattle.comparing.proofs.common.Goals as goal

pub loop-i-preserved : goal.loop-i-preserved
loop-i-preserved c = (
  omega arith,
  common_more c.args.left.now c.args.right.now c.loop-i.i c.loop-i.invariant.1 16 (omega arith) (omega arith) (search rules),
)
