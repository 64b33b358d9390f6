use Rattle.std.proofs.Common.{◌-◌, ℕ, refl, sym, ap, subst, arith}
use Rattle.std.proofs.Math.Seq.{slice, length-slice}
use Rattle.std.proofs.lemmas.Bool.{false≢true}
use Rattle.rows.specs.Rows.{rows_of}
use Rattle.decompositions.specs.Decompositions.{parted}
use Rattle.decomposing.specs.Decomposing.{RowWritten}
use Rattle.decomposing.proofs.JobsTried.{tried_none, tried_all, job_written, put_back, row_written}
use Rattle.decomposing.proofs.Turns.{turn, can_lower, y_small, x_small, x_norm, x_least}
use Rattle.decomposing.proofs.PassedJobs.{lent_below, lent_cut, passed_unlikely, passed_missed, passed_cut, tail_here, job_and_tail, parts_lent}
use Rattle.decomposing.proofs.PairsAsked.{can_pair, can_ask, can_compare, answer_yes, answer_no}
use Rattle.decomposing.proofs.new_row.Goals as goal

pub lowered_row-end-requires-clause-can_lower : goal.lowered_row-end-requires-clause-can_lower
lowered_row-end-requires-clause-can_lower c = can_lower c.requires.decomposable c.job_at-y.result c.job_at-y.ensures

-- no job is tried yet
pub loop-earlier-init : goal.loop-earlier-init
loop-earlier-init c =
    let end = c.lowered_row-end.result in
    let out = c.lowered_row-end.new.out in
    let w = c.lowered_row-end.ensures in
    record {
      written = w;
      tried = tried_none c.args.facts.now _ _ c.args.place c.job_at-y.result (slice 1 end out) (end - 1) (c.norm.result - 1)
          (sym (length-slice 1 end out (omega (arith, w.short, w.size)))) (omega (arith, w.low.norm, c.norm.ensures));
    }

pub likely-requires : goal.likely-requires
likely-requires c =
    let kept = c.loop-earlier.invariant in
    let u = turn c.requires.decomposable c.job_at-y.ensures kept.written kept.tried c.loop-earlier-test.true c.job_at-x.ensures in
    (y_small u, x_small u)

pub loop-earlier-preserved-then-not-likely : goal.loop-earlier-preserved-then-not-likely
loop-earlier-preserved-then-not-likely c =
    let kept = c.loop-earlier.invariant in
    let u = turn c.requires.decomposable c.job_at-y.ensures kept.written kept.tried c.loop-earlier-test.true c.job_at-x.ensures in
    record { written = kept.written; tried = passed_unlikely u (λ l. false≢true (c.if-not-likely.ensures.1 l)) }

pub norm-goal-requires : goal.norm-goal-requires
norm-goal-requires c =
    let kept = c.loop-earlier.invariant in
    let u = turn c.requires.decomposable c.job_at-y.ensures kept.written kept.tried c.loop-earlier-test.true c.job_at-x.ensures in
    omega (arith, x_small u, y_small u)

pub overflow_sub-goal : goal.overflow_sub-goal
overflow_sub-goal c =
    let kept = c.loop-earlier.invariant in
    let u = turn c.requires.decomposable c.job_at-y.ensures kept.written kept.tried c.loop-earlier-test.true c.job_at-x.ensures in
    omega (arith, x_norm u, x_least u, c.norm-goal.ensures)

pub move_back-requires-clause-row_value : goal.move_back-requires-clause-row_value
move_back-requires-clause-row_value c =
    let kept = c.loop-earlier.invariant in
    lent_below (turn c.requires.decomposable c.job_at-y.ensures kept.written kept.tried c.loop-earlier-test.true c.job_at-x.ensures)

pub move_back-requires-clause-cut_behind : goal.move_back-requires-clause-cut_behind
move_back-requires-clause-cut_behind c =
    let kept = c.loop-earlier.invariant in
    let u = turn c.requires.decomposable c.job_at-y.ensures kept.written kept.tried c.loop-earlier-test.true c.job_at-x.ensures in
    lent_cut u (ap (λ (n : ℕ). n - 1) c.norm-goal.ensures)

pub loop-earlier-preserved-then-cut-goal : goal.loop-earlier-preserved-then-cut-goal
loop-earlier-preserved-then-cut-goal c =
    let kept = c.loop-earlier.invariant in
    let u = turn c.requires.decomposable c.job_at-y.ensures kept.written kept.tried c.loop-earlier-test.true c.job_at-x.ensures in
    record {
      written = kept.written;
      tried = passed_missed u (ap (λ (n : ℕ). n - 1) c.norm-goal.ensures) c.move_back.ensures c.if-cut-goal.true;
    }

-- THE CANDIDATE: the job and its tail
pub pair_of-pair-requires : goal.pair_of-pair-requires
pair_of-pair-requires c =
    let kept = c.loop-earlier.invariant in
    let u = turn c.requires.decomposable c.job_at-y.ensures kept.written kept.tried c.loop-earlier-test.true c.job_at-x.ensures in
    let is = ap (λ (n : ℕ). n - 1) c.norm-goal.ensures in
    can_pair u (tail_here u is c.move_back.ensures c.if-cut-goal.false) (parts_lent u is c.move_back.ensures)

pub fits-requires-clause-pairing : goal.fits-requires-clause-pairing
fits-requires-clause-pairing c =
    let kept = c.loop-earlier.invariant in
    let u = turn c.requires.decomposable c.job_at-y.ensures kept.written kept.tried c.loop-earlier-test.true c.job_at-x.ensures in
    let is = ap (λ (n : ℕ). n - 1) c.norm-goal.ensures in
    can_ask u (tail_here u is c.move_back.ensures c.if-cut-goal.false) (parts_lent u is c.move_back.ensures) c.pair_of-pair.ensures

pub fits-requires-clause-old_pair : goal.fits-requires-clause-old_pair
fits-requires-clause-old_pair c =
    let kept = c.loop-earlier.invariant in
    let u = turn c.requires.decomposable c.job_at-y.ensures kept.written kept.tried c.loop-earlier-test.true c.job_at-x.ensures in
    let is = ap (λ (n : ℕ). n - 1) c.norm-goal.ensures in
    can_compare u (tail_here u is c.move_back.ensures c.if-cut-goal.false) (parts_lent u is c.move_back.ensures) c.pair_of-pair.ensures

-- it fits: what is written is the row
pub returns-then-fits : goal.returns-then-fits
returns-then-fits c =
    let kept = c.loop-earlier.invariant in
    let u = turn c.requires.decomposable c.job_at-y.ensures kept.written kept.tried c.loop-earlier-test.true c.job_at-x.ensures in
    let is = ap (λ (n : ℕ). n - 1) c.norm-goal.ensures in
    let decomposes = answer_yes u (tail_here u is c.move_back.ensures c.if-cut-goal.false) (parts_lent u is c.move_back.ensures)
    c.pair_of-pair.ensures (c.if-not-likely.ensures.0 refl) (c.if-fits.ensures.0 refl) in
    let written = job_and_tail u is c.move_back.ensures in
    rw (← c.job_at-y.ensures) (row_written c.args.facts.now _ _ c.job_at-y.result _ _ _ _ _ written (parted _ _ decomposes))

-- it does not: what stood in its place is put back
pub loop-earlier-preserved : goal.loop-earlier-preserved
loop-earlier-preserved c =
    let kept = c.loop-earlier.invariant in
    let u = turn c.requires.decomposable c.job_at-y.ensures kept.written kept.tried c.loop-earlier-test.true c.job_at-x.ensures in
    let is = ap (λ (n : ℕ). n - 1) c.norm-goal.ensures in
    let never = answer_no u (tail_here u is c.move_back.ensures c.if-cut-goal.false) (parts_lent u is c.move_back.ensures)
    c.pair_of-pair.ensures (λ m. false≢true (c.if-fits.ensures.1 m)) in
    record {
      written = rw put_back kept.written;
      tried = rw put_back (passed_cut u is c.move_back.ensures never);
    }

-- no job is left, and the job is written alone
pub returns : goal.returns
returns c =
    let facts = c.args.facts.now in
    let kept = c.loop-earlier.invariant in
    let y = c.job_at-y.result in
    let alone = tried_all facts _ _ c.args.place y _ c.loop-earlier.earlier c.loop-earlier.cut.at c.loop-earlier.cut.norm kept.tried
    c.requires.decomposable.inside c.job_at-y.ensures (omega arith) in
    rw (← c.job_at-y.ensures) (row_written facts _ _ y y _ _ 0 1 (job_written c.loop-earlier.out kept.written.size y) alone)
