-- Walking along the chain of a job: its positions, and that each rule of the job between them is written twice. Assumes nothing.
use mathlib.Core.Path.{◌≡◌, ap, ◌∙◌, subst}
use mathlib.Core.List.{List}
use Prim.Native.Nat.{ℕ, zero, suc, ◌<◌}
use native.Mathlib.Omega.{arith}
use lib.ListN.{get_or}
use Rattle.bpa.specs.Plans.{Rule}
use Rattle.rules.specs.Places.{rule_at, rule_count}
use Rattle.repeated.specs.Repeated.{Repeated}
use Rattle.prepare.specs.Prepared.{NextOf, Chained, OnChain}

-- the job of a rule that is written twice is that of the earlier one
pub repeated_job : (rs : List ℕ) (j i : ℕ) (r : Repeated rs i) → (rule_at rs i).job ≡ j → (rule_at rs r.earlier).job ≡ j
repeated_job rs j i r own = ap (λ (u : Rule). u.job) r.same ∙ own

lands : (rs : List ℕ) (j i k : ℕ) → NextOf rs j i k → OnChain rs j k
lands rs j i k n = record { within = n.within; own = n.own }

module _ (rs first next : List ℕ) (c : Chained rs first next) (j : ℕ) where
  module _ (h : j < 24) where
    pub chain_start : OnChain rs j (get_or first j 0)
    chain_start = lands rs j 0 (get_or first j 0) (c.starts j h)

    -- no rule of the job stands before its first: of two equal ones the earlier would
    below_start : (n m : ℕ) → m < n → m < get_or first j 0 → (rule_at rs m).job ≡ j → ⊥
    below_start zero m l b own = omega arith
    below_start (suc n) m l b own =
        let r = (c.starts j h).between m (omega arith) b own in
        below_start n r.earlier (omega (arith, r.before)) (omega (arith, r.before)) (repeated_job rs j m r own)

    pub start_gap : (m : ℕ) → m < get_or first j 0 → (rule_at rs m).job ≡ j → ⊥
    start_gap m b own = below_start (suc m) m (omega arith) b own

  module _ (i : ℕ) (h : i < rule_count rs) (on : OnChain rs j i) where
    next_of : NextOf rs j (suc i) (get_or next i 0)
    next_of = subst (λ (k : ℕ). NextOf rs k (suc i) (get_or next i 0)) (on.own h) (c.goes_on i h)

    pub chain_next : OnChain rs j (get_or next i 0)
    chain_next = lands rs j (suc i) (get_or next i 0) next_of

    pub chain_gap : (m : ℕ) → i < m → m < get_or next i 0 → (rule_at rs m).job ≡ j → Repeated rs m
    chain_gap m l b own = next_of.between m l b own

    pub chain_rises : i < get_or next i 0
    chain_rises = omega (arith, next_of.rises)
