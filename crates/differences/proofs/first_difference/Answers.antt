-- `differences::first_difference` meets its contract. Assumes nothing.
use Rattle.std.proofs.Common.{ℕ, List, get_or, sym, ap, refl, arith}
use borrow.Author.Tests.{eqb-true}
use mathlib.Core.Bool.{cond}
use Rattle.bpa.proofs.Basics.Cases.{never_both}
use Rattle.rows.specs.Answers.{meaning}
use Rattle.differences.proofs.Cursors.{left_row, right_row, at_first, enter_left, pass_job, leave_left, enter_right, enter_rest}
use Rattle.differences.proofs.Cursors.{left_ends_first, plans_end, right_ends_first, places_differ, places_equal, places_passed}
use Rattle.differences.proofs.first_difference.Goals as goal

pub places-init : goal.places-init
places-init c = (omega arith, at_first c.requires c.args.rest.now)

pub places-preserved-then-passes : goal.places-preserved-then-passes
places-preserved-then-passes c =
    let v = c.places in
    let said = c.passes.ensures in
    let y = c.if-passes.true in (
      omega arith,
      pass_job c.requires v.i v.invariant.1 (omega arith) (eqb-true v.at v.end (said.start y)) (said.inside y) (said.same y),
    )

pub len_of-requires : goal.len_of-requires
len_of-requires c = (left_row c.requires c.places.i (omega arith) c.from-job.result c.from-job.ensures).0

pub loop-k-init : goal.loop-k-init
loop-k-init c =
    rw c.len_of.ensures.is (enter_left c.requires c.places.i c.places.invariant.1 (omega arith) c.from-job.result c.from-job.ensures)

pub places-preserved : goal.places-preserved
places-preserved c = (omega arith, leave_left c.requires c.loop-k.invariant (omega arith))

pub loop-k-smaller-then-t-q : goal.loop-k-smaller-then-t-q
loop-k-smaller-then-t-q c = omega (arith, ap {B = ℕ} (λ b. cond b 0 1) c.if-behind.false)

pub loop-k-preserved-then-t-q : goal.loop-k-preserved-then-t-q
loop-k-preserved-then-t-q c = enter_rest c.requires c.loop-k.invariant c.if-at-end.true (omega arith) c.if-behind.false

pub len_of-requires-then-at-end : goal.len_of-requires-then-at-end
len_of-requires-then-at-end c = (right_row c.requires c.loop-k.t (omega arith) c.from-other.result c.from-other.ensures).0

pub loop-k-preserved-then-at-end : goal.loop-k-preserved-then-at-end
loop-k-preserved-then-at-end c =
    rw c.len_of-then-at-end.ensures.is
    (enter_right c.requires c.loop-k.invariant c.if-at-end.true (omega arith) c.from-other.result c.from-other.ensures)

pub loop-k-preserved-then-n-gt0 : goal.loop-k-preserved-then-n-gt0
loop-k-preserved-then-n-gt0 c =
    places_passed c.requires c.loop-k.invariant c.leap-n.result (rw (sym c.right_side-right.ensures) c.leap-n.ensures)

pub loop-k-preserved : goal.loop-k-preserved
loop-k-preserved c =
    places_equal c.requires c.loop-k.invariant (omega arith) (omega arith) _ _ refl
    (ap (λ (l : List ℕ). get_or l c.loop-k.at 0) c.right_side-right.ensures) c.if-x-y.false

pub returns-then-right_ends : goal.returns-then-right_ends
unfolding meaning
returns-then-right_ends c =
    sym (plans_end c.requires c.places.i c.places.invariant.1 (omega arith) (c.right_ends.ensures.0 c.if-right_ends.true))

pub returns-else-right_ends : goal.returns-else-right_ends
unfolding meaning
returns-else-right_ends c =
    sym
    (left_ends_first c.requires c.places.i c.places.invariant.1 (omega arith)
    (λ r. never_both _ (c.right_ends.ensures.1 r) c.if-right_ends.false))

pub returns-then-behind : goal.returns-then-behind
unfolding meaning
returns-then-behind c =
    sym (right_ends_first c.requires c.loop-k.invariant (omega arith) c.if-at-end.true (omega arith) c.if-behind.true)

pub returns-then-x-y : goal.returns-then-x-y
unfolding meaning
returns-then-x-y c =
    sym
    (places_differ c.requires c.loop-k.invariant (omega arith) (omega arith) _ _ refl
    (ap (λ (l : List ℕ). get_or l c.loop-k.at 0) c.right_side-right.ensures) c.if-x-y.true)
