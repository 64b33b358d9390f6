-- What the output holds before each block and at the end. Assumes nothing.
use Rattle.std.proofs.Common.{◌≡◌, arith, rules}
use Rattle.image.proofs.ListRefusal.{good_list}
use Rattle.image_write.proofs.WrittenSoFar.{blocks, begin, next, done}
use Rattle.image_write.proofs.write_blocks.Goals as goal

pub loop-k-init : goal.loop-k-init
loop-k-init c = begin _ _ _ (good_list _ _ c.requires.rules_value) c.requires.rules_in_bounds

pub loop-k-preserved : goal.loop-k-preserved
loop-k-preserved c =
    let count : c.div_ceil-blocks.result ≡ blocks c.args.rules.now = search rules in
    next _ _ _ _ _ c.loop-k.invariant (omega arith) c.min-to.result (search rules) _ (cc)

pub returns : goal.returns
returns c =
    let count : c.div_ceil-blocks.result ≡ blocks c.args.rules.now = search rules in
    rw count (done _ _ _ _ _ c.loop-k.invariant (omega arith))
