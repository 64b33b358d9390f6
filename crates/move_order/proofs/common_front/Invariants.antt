-- What `move_order::common_front` has passed is common. Assumes nothing.
use Rattle.std.proofs.Common.{length, ◌-◌}
use Rattle.comparing.specs.Comparisons.{Common}
use Rattle.move_order.proofs.common_front.Given as goal

abbrev pub invariant-loop-i : goal.invariant-loop-i
invariant-loop-i l = Common l.left l.right l.i

abbrev pub decreases-loop-i : goal.decreases-loop-i
decreases-loop-i l = length l.left - l.i
