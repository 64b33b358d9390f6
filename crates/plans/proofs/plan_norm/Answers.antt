-- `plans::plan_norm` meets its contract. Assumes nothing.
use Rattle.std.proofs.Common.{◌≡◌, ◌∙◌, rules, arith, ap, Ok}
use Rattle.answer.proofs.RefusalChains.{both_pass}
use Rattle.answer.proofs.ResultChains.{handed, err_stops, ok_passes, ok_goes_on}
use Rattle.answer.proofs.Answered.{gives_err, gives_ok}
use Rattle.table.proofs.AcceptedPlans.{seen, plan_checked, plan_ready}
use Rattle.plans.proofs.plan_norm.Goals as goal

pub returns-in_err-held : goal.returns-in_err-held
returns-in_err-held c =
    gives_err c.from_residual.result (err_stops c.read.result _ _ _ c.in_err-held.was (search rules) c.read.ensures.refusal_is) c.in_err-held.field-0.0 _ (search rules)

pub returns-in_err-check_plan : goal.returns-in_err-check_plan
returns-in_err-check_plan c =
    let t = seen c.read.ensures _ c.in_ok-held.was c.normed-table.result c.normed-table.ensures.jobs c.normed-table.ensures.rules in
    let r = c.from_residual-in_err-check_plan.result in
    let k = plan_checked c.normed-table.result t c.check_plan.result c.args.plan.now c.check_plan.ensures in
    gives_err r (ok_goes_on c.read.result _ r c.in_ok-held.was c.read.ensures.refusal_is (handed c.check_plan.result r _ c.in_err-check_plan.was (search rules) k))
    c.in_err-check_plan.field-0.0 _ (search rules)

pub capped_sum-requires : goal.capped_sum-requires
capped_sum-requires c =
    let t = seen c.read.ensures _ c.in_ok-held.was c.normed-table.result c.normed-table.ensures.jobs c.normed-table.ensures.rules in
    (plan_ready c.normed-table.result t c.check_plan.result c.args.plan.now c.check_plan.ensures _ c.in_ok-check_plan.was).within_24

pub returns : goal.returns
returns c =
    let t = seen c.read.ensures _ c.in_ok-held.was c.normed-table.result c.normed-table.ensures.jobs c.normed-table.ensures.rules in
    let k = plan_checked c.normed-table.result t c.check_plan.result c.args.plan.now c.check_plan.ensures in
    let p = plan_ready c.normed-table.result t c.check_plan.result c.args.plan.now c.check_plan.ensures _ c.in_ok-check_plan.was in
    gives_ok (Ok c.capped_sum.result) _
    (both_pass _ _ (ok_passes c.read.result _ c.in_ok-held.was c.read.ensures.refusal_is) (ok_passes c.check_plan.result _ c.in_ok-check_plan.was k))
    (ap Ok (omega (arith, c.capped_sum.ensures, p.norm_is, p.sum_small)))
