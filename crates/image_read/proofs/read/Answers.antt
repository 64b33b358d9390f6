-- What the reader holds before each block and at the end. Assumes nothing.
use Rattle.std.proofs.Common.{rules}
use Rattle.image.proofs.AcceptedImages.{laid_out}
use Rattle.image_read.proofs.ReadSoFar.{start, takes, next, done}
use Rattle.image_read.proofs.read.Goals as goal

pub loop-block-init : goal.loop-block-init
loop-block-init c = start _ _ _ _ _ (search rules) (search rules) (search rules)

pub take_block-reader-requires : goal.take_block-reader-requires
take_block-reader-requires c =
    takes _ _ _ _ _ _ c.loop-block.invariant c.as_chunks.result.0.now (search rules) (search rules) (laid_out _ c.requires)

pub loop-block-preserved : goal.loop-block-preserved
loop-block-preserved c =
    next _ _ _ _ _ _ c.loop-block.invariant c.as_chunks.result.0.now (search rules) (search rules) (laid_out _ c.requires) _ _ _ _
    c.take_block-reader.ensures.jobs_value.0 c.take_block-reader.ensures.jobs_value.1 c.take_block-reader.ensures.took

pub returns : goal.returns
returns c = done _ _ _ _ _ _ c.loop-block.invariant (search rules) (laid_out _ c.requires)
