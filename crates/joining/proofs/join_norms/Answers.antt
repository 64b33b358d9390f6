-- `joining::join_norms` meets its contract. Assumes nothing.
use Rattle.std.proofs.Common.{arith}
use Rattle.joining.proofs.JoinedSizes.{norms_put}
use Rattle.joining.proofs.join_norms.Goals as goal

pub returns : goal.returns
returns c = norms_put c.args.norms.now c.args.jobs c.args.others.now (omega arith) (omega arith) c.requires c.copy_from_slice.new.self c.copy_from_slice.ensures.after
