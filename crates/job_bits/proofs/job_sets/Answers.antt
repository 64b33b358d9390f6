-- No rule yet, and one rule more.
use mathlib.Core.Path.{sym, ◌∙◌}
use native.Mathlib.Omega.{arith}
use native.Mathlib.Numerals.{add-one}
use lib.ListN.{length-set}
use Rattle.bpa.proofs.Basics.JobsBelow.{below_more}
use Rattle.growth.specs.Reached.{all_but_last}
use Rattle.job_bits.proofs.BitsOfJobs.{held_none, held_more}
use Rattle.job_bits.proofs.job_sets.Goals as goal

pub loop-i-init : goal.loop-i-init
loop-i-init c =
    let rs = c.args.rules.now.bytes.now in
    record { rows_long = omega arith; fronts_long = omega arith; passed = record { rows_hold = held_none (λ w. w) rs; fronts_hold = held_none all_but_last rs } }

pub row_sets-row-requires : goal.row_sets-row-requires
row_sets-row-requires c = below_more c.args.rules.now.jobs 24 c.after.result.now c.args.rules.now.good.jobs c.after.ensures.jobs

pub loop-i-preserved : goal.loop-i-preserved
loop-i-preserved c =
    let rs = c.args.rules.now.bytes.now in
    let l = c.loop-i in
    let row = rw c.after.ensures.after at c.row_sets-row.ensures in
    record {
      rows_long = length-set l.sets.rows _ _ ∙ l.invariant.rows_long;
      fronts_long = length-set l.sets.fronts _ _ ∙ l.invariant.fronts_long;
      passed = rw (add-one) (record {
        rows_hold = held_more (λ w. w) rs l.i _ _ l.sets.rows l.invariant.rows_long (sym c.job-job.ensures.0) row.all_hold l.invariant.passed.rows_hold;
        fronts_hold = held_more all_but_last rs l.i _ _ l.sets.fronts l.invariant.fronts_long (sym c.job-job.ensures.0) row.front_hold l.invariant.passed.fronts_hold;
      });
    }
