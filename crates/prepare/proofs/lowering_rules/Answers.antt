-- `lowering_rules` meets its contract: a rule that lowers its job's norm is stored in the job's place. Assumes nothing.
use Rattle.std.proofs.Common.{refl, ◌≡◌, [], ℕ, suc, ◌+◌, ◌-◌, ◌<◌, length, get_or, List, sym, ap, subst, arith}
use Rattle.std.proofs.Math.ListN.{set, length-set}
use Rattle.bpa.specs.Norms.{sum_of}
use Rattle.rules.specs.Places.{rule_at, rule_count}
use Rattle.prepare.specs.Prepared.{lowers, RowNorms}
use Rattle.prepare.proofs.FirstRuleArray.{Filled, fill_end, fill_hit, fill_miss}
use Rattle.prepare.proofs.LentTables.{normed}
use Rattle.prepare.proofs.LoweringRules.{own_lowers, does_lower, lowers_not, lowered}
use Rattle.prepare.proofs.lowering_rules.Goals as goal

pub loop-i-init : goal.loop-i-init
loop-i-init c =
    let ns = c.args.table.now.norms.now in
    record {
      size = refl;
      filled = fill_end (lowers ns) (own_lowers ns) c.list-rules.result.bytes.now [] c.count-total.result c.count-total.ensures.0;
    }

-- one rule more, from position n back to i
module _ (rs ns sums low : List ℕ) (n i j : ℕ) (next : n ≡ suc i) (h : i < rule_count rs) (own : j ≡ (rule_at rs i).job) (rows : RowNorms rs ns sums)
    (f : Filled (lowers ns) rs low n) where
  filled : Filled (lowers ns) rs low (suc i)
  filled = subst (Filled (lowers ns) rs low) next f

  hit : length low ≡ 24 → j < 24 → get_or ns j 0 ≡ get_or sums i 0 + 1 → Filled (lowers ns) rs (set low j i) i
  hit size b falls =
      let lower : get_or ns j 0 ≡ suc (sum_of ns (rule_at rs i).after) = omega (arith, falls, (rows.at i h).is) in
      fill_hit (lowers ns) (own_lowers ns) rs low i j size h b (does_lower ns j (rule_at rs i) (sym own) lower) filled

  miss : (get_or ns j 0 ≡ get_or sums i 0 + 1 → ⊥) → Filled (lowers ns) rs low i
  miss stays =
      let same : get_or ns j 0 ≡ get_or ns (rule_at rs i).job 0 = ap (λ (k : ℕ). get_or ns k 0) own in
      let is = (rows.at i h).is in
      fill_miss (lowers ns) (own_lowers ns) rs low i h (lowers_not ns (rule_at rs i).job (rule_at rs i) (λ e. stays (omega (arith, e, same, is)))) filled

pub loop-i-preserved-then-table-job : goal.loop-i-preserved-then-table-job
loop-i-preserved-then-table-job c =
    let table = c.args.table.now in
    let rules = c.list-rules.result in
    record {
      size = rw length-set c.loop-i.invariant.size;
      filled = hit rules.bytes.now table.norms.now c.args.sums.now c.loop-i.low c.loop-i.i (c.loop-i.i - 1) c.job-job.result (omega arith) (omega arith)
          c.job-job.ensures.0 (rw c.list-rules.ensures.1 c.requires) c.loop-i.invariant.filled c.loop-i.invariant.size (omega (arith, rules.good.jobs)) c.if-table-job.true;
    }

pub loop-i-preserved : goal.loop-i-preserved
loop-i-preserved c =
    let table = c.args.table.now in
    let rules = c.list-rules.result in
    record {
      size = c.loop-i.invariant.size;
      filled = miss rules.bytes.now table.norms.now c.args.sums.now c.loop-i.low c.loop-i.i (c.loop-i.i - 1) c.job-job.result (omega arith) (omega arith)
          c.job-job.ensures.0 (rw c.list-rules.ensures.1 c.requires) c.loop-i.invariant.filled c.if-table-job.false;
    }

pub returns : goal.returns
returns c =
    let table = c.args.table.now in
    let done : c.loop-i.i ≡ 0 = omega arith in
    lowered table.jobs table.rules.now table.norms.now
    (normed table.jobs table.rules.now table.norms.now table.list table.exact table.finite) c.loop-i.low (omega (arith, table.list.jobs))
    (subst (λ (rs : List ℕ). Filled (lowers table.norms.now) rs c.loop-i.low 0) c.list-rules.ensures.1
    (subst (Filled (lowers table.norms.now) c.list-rules.result.bytes.now c.loop-i.low) done c.loop-i.invariant.filled))
