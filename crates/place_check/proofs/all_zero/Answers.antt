-- What all_zero answers. Assumes nothing.
use Rattle.std.proofs.Common.{rules}
use Rattle.place_check.proofs.Chunks.{by_zeros}
use Rattle.place_check.proofs.all_zero.Goals as goal

pub returns : goal.returns
returns c = by_zeros c.all.result c.args.bytes.now (search rules)
