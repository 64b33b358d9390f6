-- One job more is cleared.
use native.Mathlib.Omega.{arith}
use Rattle.following.specs.Followed.{cell_of}
use Rattle.levels.proofs.CellChanges.{cleared_more}
use Rattle.levels.proofs.clear_level.Goals as goal

pub loop-job-preserved : goal.loop-job-preserved
unfolding cell_of
loop-job-preserved c =
    let l = c.loop-job in
    rw c.put_reach.ensures (cleared_more l.job c.args.left c.args.cells.now l.cells l.invariant (omega arith) (omega arith) (omega arith))
