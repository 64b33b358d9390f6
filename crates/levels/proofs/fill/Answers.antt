-- The first level, and one more for the move before it.
use mathlib.Core.Path.{◌≡◌, ap, ◌∙◌}
use Prim.Native.Nat.{ℕ, suc, ◌-◌, ◌<◌}
use native.Mathlib.Omega.{arith}
use native.Mathlib.Numerals.{add-one}
use lib.ListN.{length, get_or}
use Rattle.levels.proofs.RulesByLevel.{level_first}
use Rattle.levels.proofs.fill.Goals as goal

pub loop-left-init : goal.loop-left-init
loop-left-init c =
    let a = c.args in
    let rules = a.rules.now in
    record {
      size = c.clear_level.ensures.size;
      known = level_first rules.jobs rules.bytes.now rules.good a.log.now a.cells.now c.clear_level.new.cells c.requires c.clear_level.ensures;
    }

pub loop-left-preserved : goal.loop-left-preserved
loop-left-preserved c =
    let l = c.loop-left in
    let log = c.args.log.now in
    let inside : l.left < length log = c.loop-left-test.true in
    let place : length log - suc l.left ≡ length log - 1 - l.left = omega arith in
    record {
      size = c.next_level.ensures.size ∙ l.invariant.size;
      known = rw (add-one l.left) (c.next_level.ensures.next log inside (ap (λ (k : ℕ). get_or log k 0) place) l.invariant.known);
    }
