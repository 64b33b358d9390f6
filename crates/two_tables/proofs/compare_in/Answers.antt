-- `two_tables::compare_in` meets its contract. Assumes nothing.
use Rattle.std.proofs.Common.{◌≡◌, ◌≤◌, ◌+◌, ◌-◌, ℕ, List, refl, sym, ap, ap₂, subst, ◌∙◌, Ok, arith, rules}
use Rattle.std.proofs.lemmas.Result.{IfOk-at_ok}
use Rattle.bpa.specs.Plans.{Table, all_below}
use Rattle.bpa.specs.Norms.{sum_of}
use Rattle.bpa.specs.Method.{same}
use Rattle.rules.specs.Places.{table_of}
use Rattle.answer.specs.Refusals.{refusal_of}
use Rattle.answer.specs.Answer.{one_if}
use Rattle.answer.proofs.RefusalChains.{both_pass}
use Rattle.answer.proofs.ResultChains.{err_stops, ok_passes, ok_goes_on}
use Rattle.answer.proofs.Answered.{gives_err, gives_ok}
use Rattle.image.specs.Image.{table_in}
use Rattle.table.proofs.AcceptedPlans.{seen}
use Rattle.replacing.proofs.ListedTables.{handed_on, byte_is, then_stops}
use Rattle.joined.specs.Joined.{renumbered}
use Rattle.joining.specs.JoinedResults.{first_refused, second_refused, both_held}
use Rattle.joining.proofs.JoinedLists.{sum_joined}
use Rattle.joining.proofs.JoinedResults.{too_large, both_joined}
use Rattle.joined_plans.proofs.PlansBetween.{between, left_ready, right_ready}
use Rattle.workspace.proofs.UsablePart.{long_enough, front_inside, front_size, front_cleared}
use Rattle.two_tables.specs.TableCalls.{joined_table}
use Rattle.two_tables.proofs.JoinedCalls.{jobs_of, and_passed, images_refused, all_checks, table_is}
use Rattle.two_tables.proofs.compare_in.Goals as goal

-- the engine works in less than a workspace has
few : 24576 ≤ 65536
few = omega arith

pub returns-in_err-check : goal.returns-in_err-check
returns-in_err-check c =
    let r = c.in_err-check.field-0.0 in
    let y = c.from_residual.result in
    record {
      answer = gives_err y (err_stops c.check.result y r _ c.in_err-check.was (search rules) c.check.ensures) r _ (search rules);
      clears = refl;
    }

pub returns-in_err-held : goal.returns-in_err-held
returns-in_err-held c =
    let r = c.in_err-held.field-0.0 in
    let y = c.from_residual-in_err-held.result in
    record {
      answer = gives_err y (ok_goes_on c.check.result _ y c.in_ok-check.was c.check.ensures
          (then_stops y r _ (search rules)
          (images_refused c.args.first.now c.args.second.now c.args.alike.now c.read.ensures (first_refused r c.in_err-held.was refl) y r refl (search rules)))) r _ (search rules);
      clears = refl;
    }

pub returns-in_err-other : goal.returns-in_err-other
returns-in_err-other c =
    let r = c.in_err-other.field-0.0 in
    let y = c.from_residual-in_err-other.result in
    record {
      answer = gives_err y (ok_goes_on c.check.result _ y c.in_ok-check.was c.check.ensures
          (then_stops y r _ (search rules)
          (images_refused c.args.first.now c.args.second.now c.args.alike.now c.read.ensures
          (second_refused c.in_ok-held.held c.read-2.result r c.in_ok-held.was c.read-2.ensures c.in_err-other.was refl) y r refl (search rules)))) r _ (search rules);
      clears = refl;
    }

pub returns-in_err-check_sizes : goal.returns-in_err-check_sizes
returns-in_err-check_sizes c =
    let r = c.in_err-check_sizes.field-0.0 in
    let y = c.from_residual-in_err-check_sizes.result in
    let h = c.in_ok-held.held in
    let k = c.in_ok-other.other in
    record {
      answer = gives_err y (ok_goes_on c.check.result _ y c.in_ok-check.was c.check.ensures
          (then_stops y r _ (search rules)
          (images_refused c.args.first.now c.args.second.now c.args.alike.now c.read.ensures
          (both_held h k c.read-2.result c.in_ok-held.was c.read-2.ensures c.in_ok-other.was
          (too_large h k c.check_sizes.result c.check_sizes.ensures.refusal r c.in_err-check_sizes.was refl)) y r refl (search rules)))) r _ (search rules);
      clears = refl;
    }

-- the checks of the list and of both plans
pub returns-in_err-and : goal.returns-in_err-and
returns-in_err-and c =
    let r = c.in_err-and.field-0.0 in
    let y = c.from_residual-in_err-and.result in
    let h = c.in_ok-held.held in
    let k = c.in_ok-other.other in
    let n = c.normed.result in
    let m = c.normed-2.result in
    let p = c.args.left.now in
    let q = c.args.right.now in
    let is = seen c.read.ensures h c.in_ok-held.was n c.normed.ensures.jobs c.normed.ensures.rules in
    let is' = seen c.read-2.ensures k c.in_ok-other.was m c.normed-2.ensures.jobs c.normed-2.ensures.rules in
    let loaded =
    both_held h k c.read-2.result c.in_ok-held.was c.read-2.ensures c.in_ok-other.was
    (both_joined h k c.check_sizes.result c.check_sizes.ensures.refusal _ c.in_ok-check_sizes.was c.join.new.table c.join.ensures.joined) in
    let checks =
    all_checks c.args.first.now c.args.second.now c.args.alike.now c.read.ensures loaded c.join.new.table refl c.replace.result c.replace.ensures.refusal
    c.check_plans-of_plans.result p q (between n m is is' c.check_plans-of_plans.result p q c.check_plans-of_plans.ensures) in
    record {
      answer = gives_err y (ok_goes_on c.check.result _ y c.in_ok-check.was c.check.ensures
          (handed_on c.and.result y r c.in_err-and.was (search rules) (ap refusal_of c.and.ensures ∙ checks))) r _ (search rules);
      clears = refl;
    }

pub slice_bounds-are_same-end : goal.slice_bounds-are_same-end
slice_bounds-are_same-end c =
    front_inside 24576 c.args.space.now few (long_enough c.args.space.now (ok_passes c.check.result _ c.in_ok-check.was c.check.ensures))

pub are_same-same-requires-clause-left_value : goal.are_same-same-requires-clause-left_value
are_same-same-requires-clause-left_value c =
    let n = c.normed.result in
    let m = c.normed-2.result in
    let p = c.args.left.now in
    let is = seen c.read.ensures c.in_ok-held.held c.in_ok-held.was n c.normed.ensures.jobs c.normed.ensures.rules in
    let is' = seen c.read-2.ensures c.in_ok-other.other c.in_ok-other.was m c.normed-2.ensures.jobs c.normed-2.ensures.rules in
    let passed = and_passed c.replace.result c.check_plans-of_plans.result _ (sym c.and.ensures ∙ c.in_ok-and.was) in
    let left = left_ready n m is is' c.check_plans-of_plans.result p c.args.right.now c.check_plans-of_plans.ensures _ passed.1 in
    ap (λ (i : ℕ). all_below i p) (sym c.normed.ensures.jobs) ∙ left.within

pub are_same-same-requires-clause-right_value : goal.are_same-same-requires-clause-right_value
are_same-same-requires-clause-right_value c =
    let h = c.in_ok-held.held in
    let k = c.in_ok-other.other in
    let v = c.normed-table.result in
    let n = c.normed.result in
    let m = c.normed-2.result in
    let q = c.args.right.now in
    let is = seen c.read.ensures h c.in_ok-held.was n c.normed.ensures.jobs c.normed.ensures.rules in
    let is' = seen c.read-2.ensures k c.in_ok-other.was m c.normed-2.ensures.jobs c.normed-2.ensures.rules in
    let passed = and_passed c.replace.result c.check_plans-of_plans.result _ (sym c.and.ensures ∙ c.in_ok-and.was) in
    let right = right_ready n m is is' c.check_plans-of_plans.result c.args.left.now q c.check_plans-of_plans.ensures _ passed.1 in
    let all : v.jobs ≡ h.jobs + k.jobs = c.normed-table.ensures.jobs ∙ c.replace.ensures.jobs ∙ c.join.ensures.jobs in
    let others : v.jobs - h.jobs ≡ m.jobs = omega (arith, all, c.normed-2.ensures.jobs) in
    ap (λ (i : ℕ). all_below i q) others ∙ right.within

pub are_same-same-requires-clause-right_len_bound : goal.are_same-same-requires-clause-right_len_bound
are_same-same-requires-clause-right_len_bound c =
    let h = c.in_ok-held.held in
    let k = c.in_ok-other.other in
    let l = c.join.new.table in
    let v = c.normed-table.result in
    let n = c.normed.result in
    let m = c.normed-2.result in
    let q = c.args.right.now in
    let is = seen c.read.ensures h c.in_ok-held.was n c.normed.ensures.jobs c.normed.ensures.rules in
    let is' = seen c.read-2.ensures k c.in_ok-other.was m c.normed-2.ensures.jobs c.normed-2.ensures.rules in
    let passed = and_passed c.replace.result c.check_plans-of_plans.result _ (sym c.and.ensures ∙ c.in_ok-and.was) in
    let right = right_ready n m is is' c.check_plans-of_plans.result c.args.left.now q c.check_plans-of_plans.ensures _ passed.1 in
    let all : v.jobs ≡ h.jobs + k.jobs = c.normed-table.ensures.jobs ∙ c.replace.ensures.jobs ∙ c.join.ensures.jobs in
    let norms : v.norms.now ≡ l.norms = c.normed-table.ensures.norms ∙ c.replace.ensures.norms in
    let sums = sum_joined h.jobs h.norms k.norms l.norms c.join.ensures.norms k.jobs (omega (arith, all, v.list.jobs)) q
    (ap (λ (i : ℕ). all_below i q) (sym c.normed-2.ensures.jobs) ∙ right.within) in (
      right.short,
      subst (λ (i : ℕ). i ≤ 4096)
          (sym (ap (λ (ns : List ℕ). sum_of ns (renumbered h.jobs q)) norms ∙ sums ∙ ap (λ (ns : List ℕ). sum_of ns q) (sym c.normed-2.ensures.norms)))
          right.sum_small,
    )

pub returns : goal.returns
returns c =
    let s = c.args.space.now in
    let h = c.in_ok-held.held in
    let k = c.in_ok-other.other in
    let l = c.join.new.table in
    let v = c.normed-table.result in
    let bs = c.args.first.now in
    let cs = c.args.second.now in
    let ls = c.args.alike.now in
    let p = c.args.left.now in
    let q = c.args.right.now in
    let n = c.normed.result in
    let m = c.normed-2.result in
    let is = seen c.read.ensures h c.in_ok-held.was n c.normed.ensures.jobs c.normed.ensures.rules in
    let is' = seen c.read-2.ensures k c.in_ok-other.was m c.normed-2.ensures.jobs c.normed-2.ensures.rules in
    let loaded =
    both_held h k c.read-2.result c.in_ok-held.was c.read-2.ensures c.in_ok-other.was
    (both_joined h k c.check_sizes.result c.check_sizes.ensures.refusal _ c.in_ok-check_sizes.was l c.join.ensures.joined) in
    let checks =
    all_checks bs cs ls c.read.ensures loaded l refl c.replace.result c.replace.ensures.refusal
    c.check_plans-of_plans.result p q (between n m is is' c.check_plans-of_plans.result p q c.check_plans-of_plans.ensures) in
    let passed = and_passed c.replace.result c.check_plans-of_plans.result _ (sym c.and.ensures ∙ c.in_ok-and.was) in
    let replaced = IfOk-at_ok _ passed.0.1 c.replace.ensures.replaced in
    let spaced = ok_passes c.check.result _ c.in_ok-check.was c.check.ensures in
    let long = long_enough s spaced in
    let table : table_of v.jobs v.rules.now ≡ joined_table bs cs ls =
    ap₂ table_of c.normed-table.ensures.jobs c.normed-table.ensures.rules
    ∙ table_is bs cs ls c.read.ensures loaded l refl c.replace.result c.replace.ensures.refusal c.replace.new.table replaced in
    record {
      answer =
          gives_ok _ (one_if (same (joined_table bs cs ls) p (renumbered (table_in bs).jobs q)))
          (both_pass _ _ spaced (ok_passes c.and.result _ c.in_ok-and.was (ap refusal_of c.and.ensures ∙ checks)))
          (ap Ok (c.from.ensures ∙ byte_is c.are_same-same.result
          ∙ ap one_if (c.are_same-same.ensures ∙ ap₂ (λ (t : Table) (i : ℕ). same t p (renumbered i q)) table (jobs_of h (c.read.ensures.holds h c.in_ok-held.was)))));
      clears = front_cleared s c.are_same-same.new.area 24576 few (c.are_same-same.auto.area ∙ front_size 24576 s few long) long;
    }
