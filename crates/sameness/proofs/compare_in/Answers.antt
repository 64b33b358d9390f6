-- `sameness::compare_in` meets its contract. Assumes nothing.
use Rattle.std.proofs.Common.{◌≡◌, ◌≤◌, ℕ, Bool, length, take, refl, ap, ap₂, ◌∙◌, Ok, arith, rules}
use Rattle.bpa.specs.Plans.{Table}
use Rattle.bpa.specs.Method.{same}
use Rattle.rules.specs.Places.{table_of}
use Rattle.answer.specs.Answer.{one_if}
use Rattle.answer.proofs.RefusalChains.{both_pass}
use Rattle.answer.proofs.ResultChains.{err_stops, ok_passes, ok_goes_on}
use Rattle.answer.proofs.Answered.{gives_err, gives_ok}
use Rattle.table.proofs.AcceptedPlans.{good, plans_checked, plans_ready}
use Rattle.alike_list.specs.AlikeTables.{alike_table}
use Rattle.replacing.proofs.ListedTables.{handed_on, byte_is, then_stops, then_goes_on, source_refused, list_refused, listed_passed, listed_is}
use Rattle.workspace.proofs.UsablePart.{long_enough, from_front, front_inside, front_size, front_cleared}
use Rattle.sameness.proofs.compare_in.Goals as goal

-- what does the work has less than a workspace has
few : 24576 ≤ 65536
few = omega arith

pub returns-in_err-check : goal.returns-in_err-check
returns-in_err-check c =
    let r = c.in_err-check.field-0.0 in
    record {
      answer = gives_err c.from_residual.result (err_stops c.check.result _ r _ c.in_err-check.was (search rules) c.check.ensures) r _ (search rules);
      clears = refl;
    }

pub returns-in_err-held : goal.returns-in_err-held
returns-in_err-held c =
    let r = c.in_err-held.field-0.0 in
    let y = c.from_residual-in_err-held.result in
    record {
      answer =
          gives_err y
          (ok_goes_on c.check.result _ y c.in_ok-check.was c.check.ensures
          (then_stops y r _ (search rules) (source_refused c.read.ensures c.args.alike.now y r c.in_err-held.was (search rules))))
          r _ (search rules);
      clears = refl;
    }

pub returns-in_err-replace : goal.returns-in_err-replace
returns-in_err-replace c =
    let r = c.in_err-replace.field-0.0 in
    let y = c.from_residual-in_err-replace.result in
    record {
      answer =
          gives_err y
          (ok_goes_on c.check.result _ y c.in_ok-check.was c.check.ensures
          (then_stops y r _ (search rules)
          (list_refused c.read.ensures c.args.alike.now c.in_ok-held.held c.in_ok-held.was c.replace.result c.replace.ensures.refusal y r c.in_err-replace.was (search rules))))
          r _ (search rules);
      clears = refl;
    }

pub returns-in_err-check_plans : goal.returns-in_err-check_plans
returns-in_err-check_plans c =
    let r = c.in_err-check_plans.field-0.0 in
    let y = c.from_residual-in_err-check_plans.result in
    let ls = c.args.alike.now in
    let h = c.in_ok-held.held in
    let n = c.normed-table.result in
    let is : table_of n.jobs n.rules.now ≡ alike_table c.args.image.now ls =
    ap₂ table_of c.normed-table.ensures.jobs c.normed-table.ensures.rules
    ∙ listed_is c.read.ensures ls h c.in_ok-held.was c.replace.result c.replace.ensures.refusal c.replace.new.table c.in_ok-replace.ensures.replaced in
    record {
      answer =
          gives_err y
          (ok_goes_on c.check.result _ y c.in_ok-check.was c.check.ensures
          (then_goes_on y (listed_passed c.read.ensures ls h c.in_ok-held.was c.replace.result c.replace.ensures.refusal _ c.in_ok-replace.was)
          (handed_on c.check_plans.result y r c.in_err-check_plans.was (search rules)
          (plans_checked n is c.check_plans.result c.args.left.now c.args.right.now c.check_plans.ensures))))
          r _ (search rules);
      clears = refl;
    }

pub slice_bounds-are_same-end : goal.slice_bounds-are_same-end
slice_bounds-are_same-end c =
    front_inside 24576 c.args.space.now few (long_enough c.args.space.now (ok_passes c.check.result _ c.in_ok-check.was c.check.ensures))

pub are_same-same-requires : goal.are_same-same-requires
are_same-same-requires c =
    let ls = c.args.alike.now in
    let h = c.in_ok-held.held in
    let n = c.normed-table.result in
    let is : table_of n.jobs n.rules.now ≡ alike_table c.args.image.now ls =
    ap₂ table_of c.normed-table.ensures.jobs c.normed-table.ensures.rules
    ∙ listed_is c.read.ensures ls h c.in_ok-held.was c.replace.result c.replace.ensures.refusal c.replace.new.table c.in_ok-replace.ensures.replaced in
    let (k, m) = plans_ready n is c.check_plans.result c.args.left.now c.args.right.now c.check_plans.ensures _ c.in_ok-check_plans.was in
    let long = long_enough c.args.space.now (ok_passes c.check.result _ c.in_ok-check.was c.check.ensures) in
    record { left_value = k.within; right_value = m.within; right_bound = m.sum_small; area_len = front_size 24576 c.args.space.now few long }

pub returns : goal.returns
returns c =
    let s = c.args.space.now in
    let ls = c.args.alike.now in
    let p = c.args.left.now in
    let q = c.args.right.now in
    let h = c.in_ok-held.held in
    let n = c.normed-table.result in
    let is : table_of n.jobs n.rules.now ≡ alike_table c.args.image.now ls =
    ap₂ table_of c.normed-table.ensures.jobs c.normed-table.ensures.rules
    ∙ listed_is c.read.ensures ls h c.in_ok-held.was c.replace.result c.replace.ensures.refusal c.replace.new.table c.in_ok-replace.ensures.replaced in
    let spaced = ok_passes c.check.result _ c.in_ok-check.was c.check.ensures in
    let long = long_enough s spaced in
    record {
      answer =
          gives_ok _ (one_if (same (alike_table c.args.image.now ls) p q))
          (both_pass _ _ spaced
          (both_pass _ _ (listed_passed c.read.ensures ls h c.in_ok-held.was c.replace.result c.replace.ensures.refusal _ c.in_ok-replace.was)
          (ok_passes c.check_plans.result _ c.in_ok-check_plans.was (plans_checked n is c.check_plans.result p q c.check_plans.ensures))))
          (ap Ok (c.from.ensures ∙ byte_is c.are_same-same.result ∙ ap one_if (c.are_same-same.ensures ∙ ap (λ (t : Table). same t p q) is)));
      clears = front_cleared s c.are_same-same.new.area 24576 few (c.are_same-same.auto.area ∙ front_size 24576 s few long) long;
    }
