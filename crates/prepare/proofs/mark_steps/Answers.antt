-- `mark_steps` meets its contract: the bit of a rule is joined to the mark of its job. Assumes nothing.
use Rattle.std.proofs.Common.{refl, ◌≡◌, [], ℕ, suc, ◌+◌, ◌-◌, ◌*◌, ◌/◌, ◌%◌, ◌^◌, ◌<◌, get_or, List, ap, subst, ◌∙◌, arith}
use Rattle.std.proofs.Common.{bit_or}
use Rattle.std.proofs.Math.ListN.{length-set}
use Rattle.rules.specs.Places.{rule_at, rule_count}
use Rattle.prepare.specs.Prepared.{step_number, step_bit, RowNorms}
use Rattle.prepare.proofs.Marks.{Marking, mark_none, mark_more, shifted}
use Rattle.prepare.proofs.mark_steps.Goals as goal

pub loop-i-init : goal.loop-i-init
loop-i-init c = record {
  size = refl;
  marked = mark_none c.list-rules.result.bytes.now c.args.table.now.norms.now [] c.count-i.result c.count-i.ensures.0;
}

-- the bit of a rule, as it is made
bit : (rs ns sums : List ℕ) (i j action change : ℕ) → i < rule_count rs → RowNorms rs ns sums → j ≡ (rule_at rs i).job →
    action ≡ (rule_at rs i).move → change ≡ get_or sums i 0 + 512 - get_or ns j 0 →
    1 * 2 ^ ((action + action / 256 + 11 * change) % 64) % 2 ^ 64 ≡ step_bit ns (rule_at rs i)
unfolding step_bit step_number
bit rs ns sums i j action change h rows own is made =
    let row = (rows.at i h).is in
    shifted ((action + action / 256 + 11 * change) % 64) (omega arith) ∙ rw (is, made, row, own)

pub loop-i-preserved : goal.loop-i-preserved
loop-i-preserved c =
    let rules = c.list-rules.result in
    let table = c.args.table.now in
    let i = c.loop-i.i - 1 in
    let next : c.loop-i.i ≡ suc i = omega arith in
    record {
      size = rw length-set c.loop-i.invariant.size;
      marked = mark_more rules.bytes.now table.norms.now c.loop-i.marks i c.job-job.result _ c.loop-i.invariant.size (omega arith) c.job-job.ensures.0 (omega (arith, rules.good.jobs))
          (ap (bit_or (get_or c.loop-i.marks c.job-job.result 0))
          (bit rules.bytes.now table.norms.now c.args.sums.now i c.job-job.result c.from-action.result c.from-change.result (omega arith)
          (rw c.list-rules.ensures.1 c.requires) c.job-job.ensures.0 (c.from-action.ensures ∙ c.action.ensures) c.from-change.ensures))
          (subst (Marking rules.bytes.now table.norms.now c.loop-i.marks) next c.loop-i.invariant.marked);
    }
