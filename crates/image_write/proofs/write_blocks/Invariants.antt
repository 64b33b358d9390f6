use Rattle.image_write.proofs.WrittenSoFar.{blocks, State}
use Rattle.image_write.proofs.write_blocks.Given as goal

-- the blocks written and those left are the image, and the output behind is as it was
abbrev pub invariant-loop-k : goal.invariant-loop-k
invariant-loop-k l = State l.jobs l.rules l.fn.out (blocks l.rules) l.k l.out
