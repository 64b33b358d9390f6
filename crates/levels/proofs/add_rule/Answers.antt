-- What the row of the rule reaches is joined to the cell of its job.
use native.Mathlib.Omega.{arith}
use Rattle.bpa.proofs.Basics.JobsBelow.{below_more}
use Rattle.following.specs.Followed.{cell_of}
use Rattle.levels.proofs.CellChanges.{rule_added}
use Rattle.levels.proofs.add_rule.Goals as goal

pub follow_row-row-requires-clause-jobs : goal.follow_row-row-requires-clause-jobs
follow_row-row-requires-clause-jobs c = below_more c.args.rules.now.jobs 24 c.after.result.now c.args.rules.now.good.jobs c.after.ensures.jobs

pub returns : goal.returns
unfolding cell_of
returns c =
    rule_added c.args.rules.now.bytes.now c.args.i c.args.left _ c.args.cells.now c.put_reach.new.cells c.follow_row-row.result c.joined-both.result
    (omega (arith, c.job.ensures)) (omega (arith, c.job.ensures)) (rw c.after.ensures.after at c.follow_row-row.ensures)
    (rw c.reach_at.ensures at c.joined-both.ensures) (omega (arith, c.joined-both.type_inv)) (omega (arith, c.joined-both.type_inv)) c.put_reach.ensures
