-- `prime_forms::form_in` meets its contract. Assumes nothing.
use Rattle.std.proofs.Common.{◌≡◌, ◌≤◌, ℕ, Bool, length, take, refl, ap, ap₂, sym, subst, ◌∙◌, List, Result, Ok, Err, arith, rules}
use Rattle.bpa.specs.Plans.{Table}
use Rattle.bpa.specs.Method.{prime_form}
use Rattle.rules.specs.Places.{table_of}
use Rattle.answer.specs.declared.Refusal.{Refusal}
use Rattle.answer.specs.Answer.{answered, Writes}
use Rattle.answer.proofs.RefusalChains.{both_pass}
use Rattle.answer.proofs.ResultChains.{err_stops, ok_passes, ok_goes_on}
use Rattle.answer.proofs.Answered.{writes_err, writes_ok}
use Rattle.table.proofs.AcceptedPlans.{good, plan_checked, plan_ready}
use Rattle.alike_list.specs.AlikeTables.{alike_table}
use Rattle.replacing.proofs.ListedTables.{handed_on, then_stops, then_goes_on, source_refused, list_refused, listed_passed, listed_is}
use Rattle.workspace.proofs.UsablePart.{long_enough, from_front, front_inside, front_size, front_cleared}
use Rattle.prime_forms.proofs.form_in.Goals as goal

-- what does the work has less than a workspace has
few : 24576 ≤ 65536
few = omega arith

pub returns-in_err-check : goal.returns-in_err-check
returns-in_err-check c =
    let r = c.in_err-check.field-0.0 in
    record {
      written = writes_err c.from_residual.result (err_stops c.check.result _ r _ c.in_err-check.was (search rules) c.check.ensures) r (search rules);
      clears = refl;
    }

pub returns-in_err-held : goal.returns-in_err-held
returns-in_err-held c =
    let r = c.in_err-held.field-0.0 in
    let y = c.from_residual-in_err-held.result in
    record {
      written =
          writes_err y
          (ok_goes_on c.check.result _ y c.in_ok-check.was c.check.ensures
          (then_stops y r _ (search rules) (source_refused c.read.ensures c.args.alike.now y r c.in_err-held.was (search rules))))
          r (search rules);
      clears = refl;
    }

pub returns-in_err-replace : goal.returns-in_err-replace
returns-in_err-replace c =
    let r = c.in_err-replace.field-0.0 in
    let y = c.from_residual-in_err-replace.result in
    record {
      written =
          writes_err y
          (ok_goes_on c.check.result _ y c.in_ok-check.was c.check.ensures
          (then_stops y r _ (search rules)
          (list_refused c.read.ensures c.args.alike.now c.in_ok-held.held c.in_ok-held.was c.replace.result c.replace.ensures.refusal y r c.in_err-replace.was (search rules))))
          r (search rules);
      clears = refl;
    }

pub returns-in_err-check_plan : goal.returns-in_err-check_plan
returns-in_err-check_plan c =
    let r = c.in_err-check_plan.field-0.0 in
    let y = c.from_residual-in_err-check_plan.result in
    let ls = c.args.alike.now in
    let h = c.in_ok-held.held in
    let n = c.normed-table.result in
    let is : table_of n.jobs n.rules.now ≡ alike_table c.args.image.now ls =
    ap₂ table_of c.normed-table.ensures.jobs c.normed-table.ensures.rules
    ∙ listed_is c.read.ensures ls h c.in_ok-held.was c.replace.result c.replace.ensures.refusal c.replace.new.table c.in_ok-replace.ensures.replaced in
    record {
      written =
          writes_err y
          (ok_goes_on c.check.result _ y c.in_ok-check.was c.check.ensures
          (then_goes_on y (listed_passed c.read.ensures ls h c.in_ok-held.was c.replace.result c.replace.ensures.refusal _ c.in_ok-replace.was)
          (handed_on c.check_plan.result y r c.in_err-check_plan.was (search rules)
          (plan_checked n is c.check_plan.result c.args.plan.now c.check_plan.ensures))))
          r (search rules);
      clears = refl;
    }

pub slice_bounds-write_form-end : goal.slice_bounds-write_form-end
slice_bounds-write_form-end c =
    front_inside 24576 c.args.space.now few (long_enough c.args.space.now (ok_passes c.check.result _ c.in_ok-check.was c.check.ensures))

pub write_form-requires : goal.write_form-requires
write_form-requires c =
    let ls = c.args.alike.now in
    let h = c.in_ok-held.held in
    let n = c.normed-table.result in
    let is : table_of n.jobs n.rules.now ≡ alike_table c.args.image.now ls =
    ap₂ table_of c.normed-table.ensures.jobs c.normed-table.ensures.rules
    ∙ listed_is c.read.ensures ls h c.in_ok-held.was c.replace.result c.replace.ensures.refusal c.replace.new.table c.in_ok-replace.ensures.replaced in
    let k = plan_ready n is c.check_plan.result c.args.plan.now c.check_plan.ensures _ c.in_ok-check_plan.was in
    let long = long_enough c.args.space.now (ok_passes c.check.result _ c.in_ok-check.was c.check.ensures) in
    record { plan_value = k.within; plan_bound = k.sum_small; area_len = front_size 24576 c.args.space.now few long }

pub returns : goal.returns
returns c =
    let s = c.args.space.now in
    let ls = c.args.alike.now in
    let p = c.args.plan.now in
    let h = c.in_ok-held.held in
    let n = c.normed-table.result in
    let is : table_of n.jobs n.rules.now ≡ alike_table c.args.image.now ls =
    ap₂ table_of c.normed-table.ensures.jobs c.normed-table.ensures.rules
    ∙ listed_is c.read.ensures ls h c.in_ok-held.was c.replace.result c.replace.ensures.refusal c.replace.new.table c.in_ok-replace.ensures.replaced in
    let spaced = ok_passes c.check.result _ c.in_ok-check.was c.check.ensures in
    let long = long_enough s spaced in
    let passed = both_pass _ _ spaced
    (both_pass _ _ (listed_passed c.read.ensures ls h c.in_ok-held.was c.replace.result c.replace.ensures.refusal _ c.in_ok-replace.was)
    (ok_passes c.check_plan.result _ c.in_ok-check_plan.was (plan_checked n is c.check_plan.result p c.check_plan.ensures))) in
    record {
      written = writes_ok _ passed
          (subst (λ (t : Table). Writes 0 (prime_form t p) c.args.out.now (answered c.write_form.result) c.write_form.new.out) is c.write_form.ensures);
      clears = front_cleared s c.write_form.new.area 24576 few (c.write_form.auto.area ∙ front_size 24576 s few long) long;
    }
