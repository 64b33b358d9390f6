use Rattle.std.proofs.Common.{◌≡◌, ◌-◌, take, drop, refl, sym, ◌∙◌, arith, rules}
use Rattle.area.proofs.Parts.{middle_part}
use Rattle.new_rows.proofs.GrowingRows.{growing_first, job_here, job_small, growing_settling, growing_settled, growing_asks, growing_same, row_long, row_fits, growing_more, growing_last}
use Rattle.new_rows.proofs.KnownRows.{known_same}
use Rattle.new_rows.proofs.new_rows.Goals as goal

pub is_settled-requires : goal.is_settled-requires
is_settled-requires c =
    growing_settling c.args.old.now c.requires.rows_ready c.loop-place.invariant.growing c.loop-place-test.true c.job_at-y.ensures

pub loop-place-init : goal.loop-place-init
loop-place-init c = record { growing = growing_first c.args.old.now c.requires.rows_ready; prints_kept = refl }

pub loop-place-preserved-then-is_settled : goal.loop-place-preserved-then-is_settled
loop-place-preserved-then-is_settled c = record {
  growing = growing_settled c.args.old.now c.requires.rows_ready c.loop-place.invariant.growing c.loop-place-test.true c.job_at-y.ensures c.is_settled.ensures
      c.if-is_settled.true;
  prints_kept = c.loop-place.invariant.prints_kept;
}

pub new_row-part-requires-clause-decomposable : goal.new_row-part-requires-clause-decomposable
new_row-part-requires-clause-decomposable c =
    let w = c.loop-place.invariant.growing in
    growing_asks c.args.old.now c.requires.rows_ready w c.loop-place-test.true c.job_at-y.ensures c.loop-place.round.prints
    (rw c.loop-place.invariant.prints_kept c.all_prints.ensures) _ refl w.within

pub row-requires-clause-is_job : goal.row-requires-clause-is_job
row-requires-clause-is_job c =
    job_small c.args.old.now c.requires.rows_ready c.loop-place.invariant.growing c.loop-place-test.true c.job_at-y.ensures

pub row-requires-clause-short : goal.row-requires-clause-short
row-requires-clause-short c =
    c.requires.rows_ready.old_within.short _
    (job_here c.args.old.now c.requires.rows_ready c.loop-place.invariant.growing c.loop-place-test.true c.job_at-y.ensures)

-- the row that was worked out is the old one
pub loop-place-preserved-then-eq : goal.loop-place-preserved-then-eq
loop-place-preserved-then-eq c =
    let part = c.new_row-part in
    let lent = middle_part part.new.out part.result.start part.result.end (omega (arith, part.ensures.some)) in
    let same : take (part.result.end - part.result.start) (drop part.result.start part.new.out) ≡ c.row.result.now = search rules in
    record {
      growing = growing_same c.args.old.now c.requires.rows_ready c.loop-place.invariant.growing c.loop-place-test.true c.job_at-y.ensures part.ensures
          (sym lent ∙ same ∙ c.row.ensures);
      prints_kept = c.loop-place.invariant.prints_kept;
    }

pub overflow_mul-y : goal.overflow_mul-y
overflow_mul-y c =
    omega (arith, job_small c.args.old.now c.requires.rows_ready c.loop-place.invariant.growing c.loop-place-test.true c.job_at-y.ensures)

pub put-requires : goal.put-requires
put-requires c =
    let part = c.new_row-part in
    rw (middle_part part.new.out part.result.start part.result.end (omega (arith, part.ensures.some)))
    (row_fits c.args.old.now c.requires.rows_ready c.loop-place.invariant.growing c.loop-place-test.true c.job_at-y.ensures part.ensures)

pub bounds-round-y : goal.bounds-round-y
bounds-round-y c = job_small c.args.old.now c.requires.rows_ready c.loop-place.invariant.growing c.loop-place-test.true c.job_at-y.ensures

pub bounds-stale-y : goal.bounds-stale-y
bounds-stale-y c = job_small c.args.old.now c.requires.rows_ready c.loop-place.invariant.growing c.loop-place-test.true c.job_at-y.ensures

pub bounds-round-y-in-loop-place : goal.bounds-round-y-in-loop-place
bounds-round-y-in-loop-place c =
    job_small c.args.old.now c.requires.rows_ready c.loop-place.invariant.growing c.loop-place-test.true c.job_at-y.ensures

-- it is written
pub loop-place-preserved : goal.loop-place-preserved
loop-place-preserved c =
    let part = c.new_row-part in
    let ready = c.requires.rows_ready in
    let w = c.loop-place.invariant.growing in
    let below = c.loop-place-test.true in
    let lent = middle_part part.new.out part.result.start part.result.end (omega (arith, part.ensures.some)) in
    record {
      growing = rw (c.put.ensures.output, lent)
          (growing_more c.args.old.now ready w below c.job_at-y.ensures part.ensures _ (row_long c.args.old.now ready w below c.job_at-y.ensures part.ensures));
      prints_kept = c.loop-place.invariant.prints_kept;
    }

pub returns-clause-rows : goal.returns-clause-rows
returns-clause-rows c = growing_last c.args.old.now c.requires.rows_ready (omega arith) c.loop-place.invariant.growing
