-- No job yet, and one job more.
use mathlib.Core.Path.{refl}
use native.Mathlib.Numerals.{add-one}
use native.Mathlib.Omega.{arith}
use lib.ListN.{get_or}
use Rattle.row_counts.specs.Counts.{total}
use Rattle.row_counts.proofs.CountedRows.{follow_small, total_take}
use Rattle.row_counts.proofs.total.Goals as goal

pub loop-weight-init : goal.loop-weight-init
unfolding total
loop-weight-init c = record { few = omega arith; passed = refl }

pub overflow_add-sum : goal.overflow_add-sum
overflow_add-sum c =
    let l = c.loop-weight in
    let small = follow_small c.args.counts.now c.args.whole (get_or c.args.weights.now l.weight-index 0) c.requires.small in
    omega (arith, l.invariant.few, c.followers-sum.ensures, small)

pub loop-weight-preserved : goal.loop-weight-preserved
loop-weight-preserved c =
    let l = c.loop-weight in
    let small = follow_small c.args.counts.now c.args.whole (get_or c.args.weights.now l.weight-index 0) c.requires.small in
    record {
      few = omega (arith, l.invariant.few, c.followers-sum.ensures, small);
      passed = rw (add-one) (omega (arith, l.invariant.passed, c.followers-sum.ensures, total_take c.args.counts.now c.args.whole c.args.weights.now l.weight-index c.loop-weight-test.true));
    }
