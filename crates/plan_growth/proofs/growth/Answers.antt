-- `plan_growth::growth` meets its contract. Assumes nothing.
use Rattle.std.proofs.Common.{◌≡◌, ℕ, ap, ap₂, ◌∙◌, Ok, rules}
use Rattle.bpa.specs.Plans.{Table, all_below}
use Rattle.rules.specs.Places.{table_of}
use Rattle.answer.proofs.RefusalChains.{both_pass, then_none}
use Rattle.answer.proofs.ResultChains.{err_stops, ok_passes, ok_goes_on}
use Rattle.answer.proofs.Answered.{gives_err, gives_ok}
use Rattle.image.specs.Image.{table_in}
use Rattle.table.proofs.AcceptedPlans.{seen, plan_checked, plan_ready}
use Rattle.growth.specs.Reached as meaning
use Rattle.plan_growth.proofs.growth.Goals as goal

pub returns-in_err-held : goal.returns-in_err-held
returns-in_err-held c =
    let r = c.in_err-held.field-0.0 in
    gives_err c.from_residual.result (err_stops c.read.result _ r _ c.in_err-held.was (search rules) c.read.ensures.refusal_is) r _ (search rules)

pub returns-in_err-check_plan : goal.returns-in_err-check_plan
returns-in_err-check_plan c =
    let r = c.in_err-check_plan.field-0.0 in
    let y = c.from_residual-in_err-check_plan.result in
    let n = c.normed-table.result in
    let is = seen c.read.ensures c.in_ok-held.held c.in_ok-held.was n c.normed-table.ensures.jobs c.normed-table.ensures.rules in
    gives_err y
    (ok_goes_on c.read.result _ y c.in_ok-held.was c.read.ensures.refusal_is
    (err_stops c.check_plan.result y r 0 c.in_err-check_plan.was (search rules) (plan_checked n is c.check_plan.result c.args.plan.now c.check_plan.ensures)
    ∙ then_none _))
    r _ (search rules)

pub growth_of-growth-requires : goal.growth_of-growth-requires
growth_of-growth-requires c =
    let n = c.normed-table.result in
    let is = seen c.read.ensures c.in_ok-held.held c.in_ok-held.was n c.normed-table.ensures.jobs c.normed-table.ensures.rules in
    let k = plan_ready n is c.check_plan.result c.args.plan.now c.check_plan.ensures _ c.in_ok-check_plan.was in
    ap (λ (i : ℕ). all_below i c.args.plan.now) c.list.ensures.0 ∙ k.within

pub returns : goal.returns
returns c =
    let p = c.args.plan.now in
    let n = c.normed-table.result in
    let is = seen c.read.ensures c.in_ok-held.held c.in_ok-held.was n c.normed-table.ensures.jobs c.normed-table.ensures.rules in
    gives_ok _ (meaning.growth (table_in c.args.image.now) p)
    (both_pass _ _ (ok_passes c.read.result _ c.in_ok-held.was c.read.ensures.refusal_is)
    (ok_passes c.check_plan.result _ c.in_ok-check_plan.was (plan_checked n is c.check_plan.result p c.check_plan.ensures)))
    (ap Ok (c.from.ensures ∙ c.growth_of-growth.ensures ∙ ap (λ (t : Table). meaning.growth t p) (ap₂ table_of c.list.ensures.0 c.list.ensures.1 ∙ is)))
