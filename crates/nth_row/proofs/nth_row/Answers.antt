-- One job more is written, and nothing is left.
use native.Mathlib.Omega.{arith}
use Rattle.nth_row.proofs.ChosenJobs.{writing_counts, writing_weight, writing_next, writing_end}
use Rattle.nth_row.proofs.nth_row.Goals as goal

pub choose-choice-requires-clause-inside : goal.choose-choice-requires-clause-inside
choose-choice-requires-clause-inside c =
    let l = c.loop-left in
    writing_counts _ c.args.weight c.args.index _ l.len l.left l.k l.invariant (omega arith) c.args.counts.now c.requires.counted c.loop-left-test.true

pub overflow_sub-left : goal.overflow_sub-left
overflow_sub-left c =
    let l = c.loop-left in
    (writing_weight _ c.args.weight c.args.index _ l.len l.left l.k l.invariant (omega arith) c.args.counts.now c.requires.counted c.loop-left-test.true
    c.choose-choice.result c.choose-choice.ensures).1

pub loop-left-smaller : goal.loop-left-smaller
loop-left-smaller c =
    let l = c.loop-left in
    let weighs = writing_weight _ c.args.weight c.args.index _ l.len l.left l.k l.invariant (omega arith) c.args.counts.now c.requires.counted
    c.loop-left-test.true c.choose-choice.result c.choose-choice.ensures in
    omega (arith, weighs.0, weighs.1)

pub loop-left-preserved : goal.loop-left-preserved
loop-left-preserved c =
    let l = c.loop-left in
    writing_next _ c.args.weight c.args.index _ l.len l.left l.k l.invariant (omega arith) c.args.counts.now c.requires.counted c.loop-left-test.true
    c.choose-choice.result c.choose-choice.ensures

pub returns : goal.returns
returns c =
    let l = c.loop-left in
    writing_end _ c.args.weight c.args.index _ l.len l.left l.k l.invariant (omega arith) (omega arith)
