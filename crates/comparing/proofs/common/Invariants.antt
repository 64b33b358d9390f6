-- The places passed are equal. Assumes nothing.
use Rattle.std.proofs.Common.{◌-◌, ◌≤◌}
use Rattle.comparing.specs.Comparisons.{Common}
use Rattle.comparing.proofs.common.Given as goal

abbrev pub invariant-loop-i : goal.invariant-loop-i
invariant-loop-i l = (l.i ≤ l.end) × Common l.left l.right l.i

abbrev pub decreases-loop-i : goal.decreases-loop-i
decreases-loop-i l = l.end - l.i

abbrev pub invariant-loop-k : goal.invariant-loop-k
invariant-loop-k l = Common l.left l.right l.k
