-- `joined_plans::are_same` meets its contract, by what the prime rows answer of plans. Assumes nothing.
use Rattle.std.proofs.Common.{◌-◌, arith}
use Rattle.bpa.proofs.Basics.JobsBelow.{below_more}
use Rattle.rows.specs.Region.{old_half}
use Rattle.joined.specs.Joined.{renumbered}
use Rattle.engine.proofs.Tables.{rows_comparable, rows_tell, few}
use Rattle.joined_plans.proofs.NumberedPlans.{numbered_below}
use Rattle.joined_plans.proofs.are_same.Goals as goal

pub tell_same-requires-clause-few : goal.tell_same-requires-clause-few
tell_same-requires-clause-few c = omega (arith, c.requires.jobs_within, c.args.table.now.list.jobs)

pub tell_same-requires-clause-small : goal.tell_same-requires-clause-small
tell_same-requires-clause-small c =
    let t = c.args.table.now in
    let n = c.args.jobs in
    below_more (t.jobs - n) (256 - n) c.args.right.now (omega (arith, t.list.jobs)) c.requires.right_value

pub tell_same-requires-clause-comparable : goal.tell_same-requires-clause-comparable
unfolding old_half
tell_same-requires-clause-comparable c =
    let t = c.args.table.now in
    let n = c.args.jobs in
    rows_comparable _ _ _ _ _ c.refined_rows-lens.ensures c.args.left.now (renumbered n c.args.right.now)
    (below_more n t.jobs c.args.left.now c.requires.jobs_within c.requires.left_value)
    (numbered_below n t.jobs c.args.right.now c.requires.jobs_within c.requires.right_value)

pub tell_same-requires-clause-right_len_bound : goal.tell_same-requires-clause-right_len_bound
unfolding old_half
tell_same-requires-clause-right_len_bound c =
    let t = c.args.table.now in
    let n = c.args.jobs in
    let inside = numbered_below n t.jobs c.args.right.now c.requires.jobs_within c.requires.right_value in
    omega (arith, few _ _ _ _ _ c.refined_rows-lens.ensures (renumbered n c.args.right.now) inside c.requires.right_len_bound.1)

pub returns : goal.returns
unfolding old_half
returns c =
    let t = c.args.table.now in
    let n = c.args.jobs in
    rows_tell _ _ _ _ _ c.refined_rows-lens.ensures c.args.left.now (renumbered n c.args.right.now)
    (below_more n t.jobs c.args.left.now c.requires.jobs_within c.requires.left_value)
    (numbered_below n t.jobs c.args.right.now c.requires.jobs_within c.requires.right_value) _ c.tell_same.ensures
