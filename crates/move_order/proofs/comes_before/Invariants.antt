-- The moves that `move_order::comes_before` has passed are equal. Assumes nothing.
use Rattle.area.specs.Numbers.{numbers_in}
use Rattle.comparing.specs.Comparisons.{Common}
use Rattle.move_order.proofs.comes_before.Given as goal

abbrev pub invariant-loop-k : goal.invariant-loop-k
invariant-loop-k l = Common (numbers_in l.left) (numbers_in l.right) l.k
