-- The row of no weight, and one weight more.
use mathlib.Core.Path.{refl}
use native.Mathlib.Omega.{arith}
use Rattle.row_counts.proofs.CountedRows.{counts_small, counts_first, counts_next}
use Rattle.row_counts.proofs.counts.Goals as goal

pub loop-whole-init : goal.loop-whole-init
loop-whole-init c = counts_first _ _ refl refl

pub total-requires-clause-small : goal.total-requires-clause-small
total-requires-clause-small c = counts_small c.args.weights.now _ _ (omega arith) (omega arith) c.loop-whole.invariant

pub loop-whole-preserved : goal.loop-whole-preserved
loop-whole-preserved c = counts_next _ _ _ (omega arith) (omega arith) c.loop-whole.invariant _ c.total.ensures
