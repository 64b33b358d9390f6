-- `comparing::difference` meets its contract. Assumes nothing.
use Rattle.std.proofs.Common.{◌∙◌, ap, sym, arith}
use Rattle.std.proofs.lemmas.Grind.{common_steps}
use Rattle.rows.specs.Answers.{meaning}
use Rattle.rows.specs.Rows.{rows_of}
use Rattle.comparing.proofs.Rests.{rests_first, rests_more, rests_differ, rests_over, rests_equal, rests_shorter, same_more, passed}
use Rattle.area.proofs.Parts.{rest_part}
use Rattle.comparing.proofs.difference.Goals as goal

pub loop-job-init : goal.loop-job-init
loop-job-init c = rests_first (rows_of c.args.rows.now) c.args.plan.now c.args.flat.now

pub loop-k-init : goal.loop-k-init
loop-k-init c = c.leap-k.ensures

pub loop-k-preserved : goal.loop-k-preserved
loop-k-preserved c =
    let k = c.loop-k.k in
    let row = c.row-row.result.now in
    let rest = c.loop-job.rest.now in
    let e = c.if-x-y.false in
    record {
      in_left = omega (arith, c.min-reach.ensures);
      in_right = omega (arith, c.min-reach.ensures);
      equal = same_more k row rest c.loop-k.invariant.equal (omega (arith, c.min-reach.ensures)) (omega (arith, c.min-reach.ensures)) e;
    }

pub loop-job-preserved : goal.loop-job-preserved
loop-job-preserved c =
    let l = c.loop-job in
    let e = rows_of c.args.rows.now in
    rw (rest_part l.rest.now c.min-reach.result)
    (rests_more e c.args.plan.now c.args.flat.now l.job-index l.rest.now l.invariant c.loop-job-test.true c.row-row.result.now
    (c.row-row.ensures ∙ ap e c.from.ensures) c.min-reach.result
    (passed _ _ _ _ c.loop-k.invariant (omega (arith, c.min-reach.ensures, c.leap-k.ensures.in_left, c.leap-k.ensures.in_right)))
    (omega (arith, c.min-reach.ensures)))

pub returns-then-x-y : goal.returns-then-x-y
unfolding meaning
returns-then-x-y c =
    let l = c.loop-job in
    let e = rows_of c.args.rows.now in
    let n = c.if-x-y.true in
    sym (rests_differ e c.args.plan.now c.args.flat.now l.job-index l.rest.now l.invariant c.loop-job-test.true c.row-row.result.now
    (c.row-row.ensures ∙ ap e c.from.ensures) c.loop-k.k c.loop-k.invariant.equal (omega (arith, c.min-reach.ensures)) (omega (arith, c.min-reach.ensures)) n)

pub returns-then-reach-row : goal.returns-then-reach-row
unfolding meaning
returns-then-reach-row c =
    let l = c.loop-job in
    let e = rows_of c.args.rows.now in
    sym (rests_over e c.args.plan.now c.args.flat.now l.job-index l.rest.now l.invariant c.loop-job-test.true c.row-row.result.now
    (c.row-row.ensures ∙ ap e c.from.ensures) c.min-reach.result
    (passed _ _ _ _ c.loop-k.invariant (omega (arith, c.min-reach.ensures, c.leap-k.ensures.in_left, c.leap-k.ensures.in_right)))
    (omega (arith, c.min-reach.ensures)) (omega (arith, c.min-reach.ensures)))

pub returns-then-is_empty : goal.returns-then-is_empty
unfolding meaning
returns-then-is_empty c =
    let l = c.loop-job in
    sym (rests_equal (rows_of c.args.rows.now) c.args.plan.now c.args.flat.now l.job-index l.rest.now l.invariant c.loop-job-test.false (grind (arith, common_steps)))

pub returns-else-is_empty : goal.returns-else-is_empty
unfolding meaning
returns-else-is_empty c =
    let l = c.loop-job in
    sym (rests_shorter (rows_of c.args.rows.now) c.args.plan.now c.args.flat.now l.job-index l.rest.now l.invariant c.loop-job-test.false (grind (arith, common_steps)))
