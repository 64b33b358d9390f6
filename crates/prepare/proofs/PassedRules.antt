-- A walk along the chain of a job: what is known of every rule of the job before a position. Assumes nothing.
use mathlib.Core.Path.{◌≡◌, sym, subst}
use mathlib.Core.List.{List}
use Prim.Native.Nat.{ℕ, zero, suc, ◌≤◌, ◌<◌}
use native.Mathlib.Omega.{arith}
use lib.Dec.{ltb, eqb}
use lib.ListN.{get_or}
use borrow.Author.Tests.{ltb-true, ltb-false, eqb-true, eqb-false}
use Rattle.bpa.proofs.Basics.Cases.{by_test}
use Rattle.rules.specs.Places.{rule_at, rule_count}
use Rattle.prepare.specs.Prepared.{Chained, OnChain}
use Rattle.prepare.proofs.Chains.{repeated_job, chain_start, start_gap, chain_next, chain_gap}

pub record Passed (rs : List ℕ) (job total : ℕ) (P : ℕ → Type 0) (k : ℕ) : Type 0 where
  pub count : total ≡ rule_count rs
  pub on : OnChain rs job k
  pub each : (i : ℕ) → i < k → (rule_at rs i).job ≡ job → P i

-- what P says of a rule it says of each later one that is equal to it
abbrev pub Alike : (rules : List ℕ) → (ℕ → Type 0) → Type 0
Alike rs P = (i k : ℕ) → i < k → k < rule_count rs → rule_at rs i ≡ rule_at rs k → P i → P k

module _ (rs first next : List ℕ) (chains : Chained rs first next) (job total : ℕ) (P : ℕ → Type 0) where
  pub passed_start : job < 24 → total ≡ rule_count rs → (k : ℕ) → k ≡ get_or first job 0 → Passed rs job total P k
  passed_start h t k e = record {
    count = t;
    on = subst (OnChain rs job) (sym e) (chain_start rs first next chains job h);
    each = λ i l own. absurd (start_gap rs first next chains job h i (omega arith) own);
  }

  module _ (k : ℕ) (p : Passed rs job total P k) (h : k < total) where
    pub inside : k < rule_count rs
    inside = omega (arith, p.count)

    module _ (alike : Alike rs P) (here : P k) where
      -- a rule that the chain leaves out is equal to an earlier one
      up_to : (b i : ℕ) → i < b → i < get_or next k 0 → (rule_at rs i).job ≡ job → P i
      up_to zero i l m own = absurd (omega arith)
      up_to (suc b) i l m own =
          by_test (ltb i k) (λ s. p.each i (ltb-true i k s) own)
          (λ s.
          by_test (eqb i k) (λ f. subst P (sym (eqb-true i k f)) here)
          (λ f.
          let r = chain_gap rs first next chains job k inside p.on i (after i (ltb-false i k s) (eqb-false i k f)) m own in
          alike r.earlier i r.before (omega (arith, (chain_next rs first next chains job k inside p.on).within)) r.same
          (up_to b r.earlier (omega (arith, r.before)) (omega (arith, r.before)) (repeated_job rs job i r own))))
        where
          after : (i : ℕ) → k ≤ i → (i ≡ k → ⊥) → k < i
          after i b f = omega (arith, f)

      pub passed_next : (n : ℕ) → n ≡ get_or next k 0 → Passed rs job total P n
      passed_next n e = record {
        count = p.count;
        on = subst (OnChain rs job) (sym e) (chain_next rs first next chains job k inside p.on);
        each = λ i l own. up_to (suc i) i (omega arith) (omega arith) own;
      }
