-- `refusal::check_jobs` meets its contract. Assumes nothing.
use Rattle.std.proofs.Common.{sym, ◌∙◌}
use Rattle.refusal.proofs.PlanRefusals.{jobs_by_test}
use Rattle.answer.specs.Refusals.{number, refusal_of}
use Rattle.refusal.proofs.check_jobs.Goals as goal

pub returns-then-all_below : goal.returns-then-all_below
unfolding refusal_of
returns-then-all_below c = jobs_by_test c.args.table.now.jobs c.args.plan.now _ (sym c.if-all_below.true ∙ c.all_below.ensures)

pub returns : goal.returns
unfolding refusal_of number
returns c = jobs_by_test c.args.table.now.jobs c.args.plan.now _ (sym c.if-all_below.false ∙ c.all_below.ensures)
