-- `refusal::check_norm` meets its contract. Assumes nothing.
use Rattle.std.proofs.Common.{arith}
use Rattle.answer.specs.Refusals.{number, refusal_of}
use Rattle.refusal.proofs.PlanRefusals.{norm_small, norm_large}
use Rattle.refusal.proofs.check_norm.Goals as goal

pub returns-then-within : goal.returns-then-within
unfolding refusal_of
returns-then-within c = norm_small c.args.table.now.norms.now c.args.plan.now (omega (arith, c.capped_sum-within.ensures))

pub returns : goal.returns
unfolding refusal_of number
returns c = norm_large c.args.table.now.norms.now c.args.plan.now (omega (arith, c.capped_sum-within.ensures))
