-- A row without a job, and one with a last job.
use mathlib.Core.Path.{sym, subst}
use Prim.Native.Nat.{ℕ}
use native.Mathlib.Omega.{arith}
use lib.Bits.{bit_or}
use Rattle.bits.proofs.PlaceBits.{shifted}
use Rattle.job_bits.specs.JobBits.{TwoSets}
use Rattle.job_bits.proofs.BitsOfJobs.{before_below, last_below, row_none, row_last}
use Rattle.job_bits.proofs.row_sets.Goals as goal

pub returns-in_default : goal.returns-in_default
returns-in_default c = row_none c.args.row.now c.in_default.ensures.cases

pub plan_bits-front-requires : goal.plan_bits-front-requires
plan_bits-front-requires c = before_below c.args.row.now _ _ c.in-Some.ensures.cases.0 c.requires

pub overflow_shl-result : goal.overflow_shl-result
overflow_shl-result c = omega (arith, last_below c.args.row.now _ _ c.in-Some.ensures.cases.0 c.requires)

pub returns : goal.returns
returns c =
    let row = c.args.row.now in
    let front = c.plan_bits-front.result in
    let h = last_below row _ _ c.in-Some.ensures.cases.0 c.requires in
    subst (λ (n : ℕ). TwoSets row (record { all = bit_or front n; front = front })) (sym (shifted 32 c.in-Some.field-0-0.now (omega (arith, h))))
    (row_last row _ c.in-Some.field-0-0.now front c.in-Some.ensures.cases.0 h c.plan_bits-front.ensures)
