-- What the reader holds behind a block. Assumes nothing.
use Rattle.std.proofs.Common.{arith, []}
use Rattle.image_read.proofs.TakenBlock.{few, fits, took}
use Rattle.image_read.proofs.Reader.take_block.Goals as goal

pub slice_bounds-rules-end : goal.slice_bounds-rules-end
slice_bounds-rules-end c =
    let h = fits _ c.from-more.result _ _ _ [] c.requires c.from-more.ensures in
    let size = c.requires.size in
    omega arith

pub slice_bounds-copy_from_slice-end : goal.slice_bounds-copy_from_slice-end
slice_bounds-copy_from_slice-end c =
    let h = few _ c.from-more.result _ _ _ [] c.requires c.from-more.ensures in
    let whole = c.requires.whole in
    omega arith

pub returns-clause-took : goal.returns-clause-took
returns-clause-took c = took _ _ _ _ _ _ c.requires c.from-more.ensures c.copy_from_slice.ensures.after
