-- `move_order::comes_before` meets its contract. Assumes nothing.
use Rattle.std.proofs.Common.{◌∙◌, ◌*◌, ◌+◌, ◌<◌, ◌≡◌, ℕ, List, arith, get_or, length}
use Rattle.area.specs.Numbers.{numbers_in}
use Rattle.comparing.proofs.CommonFronts.{common_place}
use Rattle.move_order.proofs.RowsAsNumbers.{number_inside, numbers_end, number_of, common_rest, common_numbers}
use Rattle.move_order.proofs.FrontOrder.{all_equal, place_unequal}
use Rattle.move_order.proofs.comes_before.Goals.{After-number_at-y}
use Rattle.move_order.proofs.comes_before.Goals as goal

pub loop-k-init : goal.loop-k-init
loop-k-init c =
    let left = c.args.left.now in
    let right = c.args.right.now in
    let front = c.common_front-front in
    common_numbers left right _ _ (omega arith) (common_rest left right front.result c.common.result front.ensures c.common.ensures)

-- the numbers of a place are read
module _ (c : After-number_at-y) where
  abbrev k : ℕ
  k = c.loop-k.k

  abbrev left : List ℕ
  left = c.args.left.now

  abbrev right : List ℕ
  right = c.args.right.now

  left_there : 2 * k + 1 < length left
  left_there = omega arith

  right_there : 2 * k + 1 < length right
  right_there = omega arith

  left_number : c.number_at-x.result ≡ get_or (numbers_in left) k 0
  left_number = c.number_at-x.ensures ∙ number_of k left left_there

  right_number : c.number_at-y.result ≡ get_or (numbers_in right) k 0
  right_number = c.number_at-y.ensures ∙ number_of k right right_there

pub loop-k-preserved : goal.loop-k-preserved
loop-k-preserved c =
    let m = (goal.at.loop-k-preserved c).After-number_at-y in
    common_place (numbers_in (left m)) (numbers_in (right m)) (k m) c.loop-k.invariant (number_inside (k m) (left m) (left_there m))
    (number_inside (k m) (right m) (right_there m)) (omega (arith, left_number m, right_number m))

pub returns-then-x-y : goal.returns-then-x-y
returns-then-x-y c =
    let m = (goal.at.returns-then-x-y c).After-number_at-y in
    place_unequal (numbers_in (left m)) (numbers_in (right m)) (k m) c.loop-k.invariant (number_inside (k m) (left m) (left_there m))
    (number_inside (k m) (right m) (right_there m)) _ _ (left_number m) (right_number m) c.if-x-y.true

pub returns : goal.returns
returns c =
    let l = c.args.left.now in
    let r = c.args.right.now in
    let k = c.loop-k.k in
    all_equal (numbers_in l) (numbers_in r) k c.loop-k.invariant (numbers_end k l (omega arith)) (numbers_end k r (omega arith))
