use Rattle.std.proofs.Common.{refl, arith}
use Rattle.answer.specs.Answer.{answered, signed}
use Rattle.answer.specs.Refusals.{number}
use Rattle.bpa.proofs.Basics.JobsBelow.{below_more}
use Rattle.engine.proofs.Tables.{readable, few, form_refused, form_room, form_written}
use Rattle.engine.proofs.write_form.Goals as goal

pub capped_sum-requires : goal.capped_sum-requires
capped_sum-requires c =
    below_more c.args.table.now.jobs 24 c.args.plan.now c.args.table.now.list.jobs c.requires.plan_value

pub returns-then-out-capped_sum : goal.returns-then-out-capped_sum
unfolding answered signed number
returns-then-out-capped_sum c =
    form_refused _ _ _ _ _ c.refined_rows-lens.ensures c.args.plan.now c.requires.plan_value c.requires.plan_bound _ c.capped_sum.ensures
    c.args.out.now c.if-out-capped_sum.true

pub write_expansion-requires-clause-readable : goal.write_expansion-requires-clause-readable
write_expansion-requires-clause-readable c = readable _ _ _ _ _ c.refined_rows-lens.ensures c.args.plan.now c.requires.plan_value

pub write_expansion-requires-clause-plan_in_bounds : goal.write_expansion-requires-clause-plan_in_bounds
write_expansion-requires-clause-plan_in_bounds c =
    form_room _ _ _ _ _ c.refined_rows-lens.ensures c.args.plan.now c.requires.plan_value c.requires.plan_bound _ c.capped_sum.ensures
    c.args.out.now c.if-out-capped_sum.false

pub returns : goal.returns
unfolding answered
returns c =
    form_written _ _ _ _ _ c.refined_rows-lens.ensures c.args.plan.now c.requires.plan_value c.requires.plan_bound _ c.capped_sum.ensures
    c.args.out.now c.if-out-capped_sum.false c.write_expansion.ensures refl

pub overflow_cast-result : goal.overflow_cast-result
overflow_cast-result c =
    omega (
      arith,
      c.write_expansion.ensures.next,
      few _ _ _ _ _ c.refined_rows-lens.ensures c.args.plan.now c.requires.plan_value c.requires.plan_bound,
    )
