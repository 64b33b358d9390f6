use Rattle.std.proofs.Common.{arith}
use Rattle.rows.specs.Region.{old_half}
use Rattle.engine.proofs.Tables.{rows_comparable, rows_tell, few}
use Rattle.engine.proofs.are_same.Goals as goal

pub same_plans-requires-clause-comparable : goal.same_plans-requires-clause-comparable
unfolding old_half
same_plans-requires-clause-comparable c =
    rows_comparable _ _ _ _ _ c.refined_rows-lens.ensures _ _ c.requires.left_value c.requires.right_value

pub same_plans-requires-clause-right_len_bound : goal.same_plans-requires-clause-right_len_bound
unfolding old_half
same_plans-requires-clause-right_len_bound c =
    omega (arith, few _ _ _ _ _ c.refined_rows-lens.ensures c.args.right.now c.requires.right_value c.requires.right_bound)

pub returns : goal.returns
unfolding old_half
returns c =
    rows_tell _ _ _ _ _ c.refined_rows-lens.ensures _ _ c.requires.left_value c.requires.right_value _ c.same_plans.ensures
