-- The lowest pending job is taken, and none is left.
use mathlib.Core.Path.{sym, subst}
use Prim.Native.Nat.{ℕ, ◌+◌, ◌-◌}
use native.Mathlib.Omega.{arith}
use lib.Bits.{bit_or}
use lib.Count.{count_trailing_zeros}
use lib.ListN.{get_or}
use lib.Pow.{pow_pos}
use Rattle.bits.proofs.PlaceBits.{shifted}
use Rattle.closure.proofs.PendingJobs.{Closing, closing_begins, closing_ends, lowest, job_least, job_small, all_least, all_small, closing_more}
use Rattle.closure.proofs.closure.Goals as goal

pub loop-pending-init : goal.loop-pending-init
loop-pending-init c = closing_begins c.args.rows.now c.args.from c.requires.from_bound

pub bounds-rows-job : goal.bounds-rows-job
bounds-rows-job c =
    let l = c.loop-pending in
    job_small c.args.rows.now c.args.from l.reached l.pending l.invariant _ (lowest _ _ _ _ l.invariant c.loop-pending-test.true)

pub overflow_sub-pending : goal.overflow_sub-pending
overflow_sub-pending c =
    let l = c.loop-pending in
    let job = count_trailing_zeros 32 l.pending in
    let here = lowest c.args.rows.now c.args.from l.reached l.pending l.invariant c.loop-pending-test.true in
    omega (
      arith,
      job_least c.args.rows.now c.args.from l.reached l.pending l.invariant job here,
      shifted 32 job (omega (arith, job_small c.args.rows.now c.args.from l.reached l.pending l.invariant job here)),
    )

pub overflow_sub-pending-in-loop-pending : goal.overflow_sub-pending-in-loop-pending
overflow_sub-pending-in-loop-pending c =
    let l = c.loop-pending in
    all_least c.args.rows.now c.args.from l.reached l.pending l.invariant _ (lowest _ _ _ _ l.invariant c.loop-pending-test.true)

pub loop-pending-smaller : goal.loop-pending-smaller
loop-pending-smaller c =
    let l = c.loop-pending in
    let job = count_trailing_zeros 32 l.pending in
    let here = lowest c.args.rows.now c.args.from l.reached l.pending l.invariant c.loop-pending-test.true in
    let is_job = job_small c.args.rows.now c.args.from l.reached l.pending l.invariant job here in
    omega (
      arith,
      shifted 32 job (omega (arith, is_job)),
      job_least c.args.rows.now c.args.from l.reached l.pending l.invariant job here,
      all_least c.args.rows.now c.args.from l.reached l.pending l.invariant job here,
      all_small c.args.rows.now c.args.from l.reached l.pending l.invariant job here (c.requires.small_rows job is_job),
      pow_pos job,
      l.invariant.least,
      l.invariant.small,
    )

pub loop-pending-preserved : goal.loop-pending-preserved
loop-pending-preserved c =
    let rows = c.args.rows.now in
    let from = c.args.from in
    let l = c.loop-pending in
    let job = count_trailing_zeros 32 l.pending in
    let here = lowest rows from l.reached l.pending l.invariant c.loop-pending-test.true in
    let is_job = job_small rows from l.reached l.pending l.invariant job here in
    let all = bit_or l.reached (get_or rows job 0) in
    subst (λ (n : ℕ). Closing rows from all (l.pending - n + (all - l.reached))) (sym (shifted 32 job (omega (arith, is_job))))
    (closing_more rows from l.reached l.pending l.invariant job here (c.requires.small_rows job is_job))

pub returns : goal.returns
returns c =
    let l = c.loop-pending in
    closing_ends c.args.rows.now c.args.from l.reached l.pending l.invariant (omega arith)
