use Rattle.std.proofs.Common.{◌<◌, ◌-◌, length, arith}
use Rattle.bpa.proofs.Basics.JobsBelow.{below_at}
use Rattle.tails.proofs.Tails.{cut_some, cut_less, cut_back}
use Rattle.tails.proofs.Cut.move_back.Goals as goal

pub overflow_sub-self : goal.overflow_sub-self
overflow_sub-self c = cut_some _ _ _ _ _ c.loop-self.invariant c.loop-self-test.true

-- the place before the cut is one of the row
pub bounds-row-self : goal.bounds-row-self
bounds-row-self c = omega (arith, c.loop-self.invariant.inside, cut_some _ _ _ _ _ c.loop-self.invariant c.loop-self-test.true)

pub norm-requires : goal.norm-requires
norm-requires c =
    let inside : c.loop-self.self.at - 1 < length c.args.row.now = omega (
      arith,
      c.loop-self.invariant.inside,
      cut_some _ _ _ _ _ c.loop-self.invariant c.loop-self-test.true,
    ) in
    omega (arith, c.from.ensures, below_at 24 c.args.row.now (c.loop-self.self.at - 1) c.requires.row_value inside)

pub overflow_sub-self-in-loop-self : goal.overflow_sub-self-in-loop-self
overflow_sub-self-in-loop-self c =
    cut_less _ _ _ _ _ c.loop-self.invariant c.loop-self-test.true c.from.result c.norm.result c.from.ensures c.norm.ensures

pub loop-self-smaller : goal.loop-self-smaller
loop-self-smaller c = omega (arith, cut_some _ _ _ _ _ c.loop-self.invariant c.loop-self-test.true)

pub loop-self-preserved : goal.loop-self-preserved
loop-self-preserved c =
    cut_back _ _ _ _ _ c.loop-self.invariant c.loop-self-test.true c.from.result c.norm.result c.from.ensures c.norm.ensures
