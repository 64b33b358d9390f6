-- A bit more of the word, and none left.
use native.Mathlib.Omega.{arith}
use Rattle.following.proofs.WordWalk.{skip_within, walk_more, walk_ends}
use Rattle.following.proofs.onward_word.Goals as goal

pub reach_at-requires : goal.reach_at-requires
reach_at-requires c =
    let a = c.args in
    let l = c.loop-bits in
    omega (arith, skip_within a.cells.now a.first a.word a.start l.reach l.bits l.cell l.invariant c.ranges.word.fits c.loop-bits-test.true)

pub loop-bits-preserved : goal.loop-bits-preserved
loop-bits-preserved c =
    let a = c.args in
    let l = c.loop-bits in
    walk_more a.cells.now a.first a.word a.start l.reach l.bits l.cell l.invariant c.ranges.word.fits c.loop-bits-test.true c.joined-reach.result
    (rw c.reach_at.ensures at c.joined-reach.ensures)

pub returns : goal.returns
returns c =
    let a = c.args in
    let l = c.loop-bits in
    walk_ends a.cells.now a.first a.word a.start l.reach l.bits l.cell l.invariant c.ranges.word.fits (omega arith)
