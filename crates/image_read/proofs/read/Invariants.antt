use Rattle.std.proofs.Common.{length, ◌/◌}
use Rattle.image_read.proofs.ReadSoFar.{State}
use Rattle.image_read.proofs.read.Given as goal

-- the rules so far and those of the blocks left are the image's
abbrev pub invariant-loop-block : goal.invariant-loop-block
invariant-loop-block l = State l.image (length l.image / 512) l.block-index l.reader.jobs l.reader.block l.reader.count l.reader.rules
