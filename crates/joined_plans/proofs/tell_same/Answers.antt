-- `joined_plans::tell_same` meets its contract: what is put at the front of the array stands there. Assumes nothing.
use Rattle.std.proofs.Common.{ℕ, List, ◌≤◌, length, sym, subst, arith}
use Rattle.bpa.specs.Method.{expand}
use Rattle.rows.specs.Region.{row, Comparable, old_half}
use Rattle.form.specs.Written.{Tells}
use Rattle.joined_plans.proofs.NumberedPlans.{stands}
use Rattle.joined_plans.proofs.tell_same.Goals as goal

pub renumber_plan-requires : goal.renumber_plan-requires
renumber_plan-requires c = (omega (arith, c.requires.short), c.requires.small)

pub same_plans-requires-clause-comparable : goal.same_plans-requires-clause-comparable
same_plans-requires-clause-comparable c =
    subst (λ (l : List ℕ). Comparable c.args.lens.now (old_half c.args.area.now) c.args.left.now l)
    (sym (stands c.args.jobs c.args.right.now c.renumber_plan.new.out c.requires.short c.renumber_plan.ensures)) c.requires.comparable

pub same_plans-requires-clause-right_len_bound : goal.same_plans-requires-clause-right_len_bound
same_plans-requires-clause-right_len_bound c =
    subst (λ (l : List ℕ). length (expand (row c.args.lens.now (old_half c.args.area.now)) l) ≤ 12288)
    (sym (stands c.args.jobs c.args.right.now c.renumber_plan.new.out c.requires.short c.renumber_plan.ensures)) c.requires.right_len_bound

pub returns : goal.returns
returns c =
    let rows = row c.args.lens.now (old_half c.args.area.now) in
    subst (λ (l : List ℕ). Tells c.same_plans.result (expand rows c.args.left.now) (expand rows l))
    (stands c.args.jobs c.args.right.now c.renumber_plan.new.out c.requires.short c.renumber_plan.ensures) c.same_plans.ensures
