-- What a filled block holds. Assumes nothing.
use Rattle.image_write.proofs.FilledBlock.{fill}
use Rattle.image_write.proofs.fill_block.Goals as goal

pub returns : goal.returns
returns c =
    fill _ _ _ _ _ c.requires _ _ _ _ _ _ _ c.put_two.ensures c.put.ensures.output c.put_zeros.ensures
    c.put_number.ensures c.put_number-2.ensures c.checksum-sum.ensures.0 c.put_number-3.ensures
