-- The rows that begin with the jobs passed are counted, and a sum of so many fits.
use mathlib.Core.Path.{◌≡◌}
use Prim.Native.Nat.{◌*◌, ◌≤◌}
use lib.ListN.{take}
use Rattle.row_counts.specs.Counts as counted
use Rattle.row_counts.proofs.total.Given as goal

abbrev pub invariant-loop-weight : goal.invariant-loop-weight
invariant-loop-weight l = record {
  few : l.sum ≤ 1521681143169024 * l.weight-index;
  passed : l.sum ≡ counted.total l.counts l.whole (take l.weight-index l.weights);
}
