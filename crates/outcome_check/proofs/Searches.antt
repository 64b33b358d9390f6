-- The way down a tree to the kept rule that begins as a rule: what it leads to is still ahead. Assumes nothing.
use mathlib.Core.Path.{◌≡◌, sym, ap, subst, ◌∙◌}
use mathlib.Core.List.{List}
use mathlib.Core.Logic.{⊎_elim}
use Prim.Native.Nat.{ℕ, ◌+◌, ◌*◌, ◌/◌, ◌%◌, ◌≤◌, ◌<◌}
use native.Mathlib.Omega.{arith}
use lib.ListN.{get_or}
use Rattle.bpa.specs.Plans.{Rule}
use Rattle.rules.specs.Places.{rule_at}
use Rattle.outcome_check.specs.RuleTrees.{SameStart, first_slot, first_rest, slot_below, Way, here, Leads, Kept, EmptySlot}
use Rattle.outcome_check.proofs.Ways.{way_further, leads_on}

-- the slot and what is left of the move, on the way of rule i
pub record Searching (rs slots : List ℕ) (i slot rest : ℕ) : Type 0 where
  pub low : slot < 1536 + 2 * i
  pub way : Way slots (first_slot (rule_at rs i)) (first_rest (rule_at rs i)) slot rest
  pub ahead : (e : ℕ) → Kept rs slots e → SameStart (rule_at rs e) (rule_at rs i) → Leads slots slot rest e

-- the way begins
same_first : (r s : Rule) → SameStart r s → (first_slot r ≡ first_slot s) × (first_rest r ≡ first_rest s)
unfolding first_slot first_rest
same_first r s e = ((λ j. 64 * e.job j + e.move j % 64), ap (λ (a : ℕ). a / 64) e.move)

module _ (rs slots : List ℕ) (i : ℕ) where
  pub begins : (job move : ℕ) → job ≡ (rule_at rs i).job → move ≡ (rule_at rs i).move → (rule_at rs i).job < 24 →
      Searching rs slots i (64 * job + move % 64) (move / 64)
  unfolding first_slot first_rest
  begins job move e f l =
      let slot : first_slot (rule_at rs i) ≡ 64 * job + move % 64 = λ j. 64 * sym e j + sym f j % 64 in
      let rest : first_rest (rule_at rs i) ≡ move / 64 = ap (λ (a : ℕ). a / 64) (sym f) in record {
        low = omega arith;
        way =
            subst (λ (x : ℕ). Way slots (first_slot (rule_at rs i)) (first_rest (rule_at rs i)) x (move / 64)) slot
            (subst (λ (x : ℕ). Way slots (first_slot (rule_at rs i)) (first_rest (rule_at rs i)) (first_slot (rule_at rs i)) x) rest
            (here (first_slot (rule_at rs i)) (first_rest (rule_at rs i))));
        ahead = λ d k s.
            let (a, b) = same_first (rule_at rs d) (rule_at rs i) s in
            subst (λ (x : ℕ). Leads slots x (move / 64) d) (a ∙ slot) (subst (λ (x : ℕ). Leads slots (first_slot (rule_at rs d)) x d) (b ∙ rest) k);
      }

  module _ (slot rest : ℕ) (p : Searching rs slots i slot rest) where
    -- and goes on below a rule that begins otherwise
    pub goes_on : (k : ℕ) → k ≡ get_or slots slot 0 → k < 252 → k < i → (SameStart (rule_at rs k) (rule_at rs i) → ⊥) →
        Searching rs slots i (slot_below k rest) (rest / 2)
    goes_on k is small before other = record {
      low = omega arith;
      way =
          subst (λ (x : ℕ). Way slots (first_slot (rule_at rs i)) (first_rest (rule_at rs i)) (slot_below x rest) (rest / 2)) (sym is)
          (way_further slots p.way (omega (arith, is)));
      ahead = λ e h s.
          ⊎_elim
          (λ (q : get_or slots slot 0 ≡ e). absurd (other (subst (λ (x : ℕ). SameStart (rule_at rs x) (rule_at rs i)) (sym (is ∙ q)) s)))
          (λ (q : (get_or slots slot 0 < 252) × Leads slots (slot_below (get_or slots slot 0) rest) (rest / 2) e).
          subst (λ (x : ℕ). Leads slots (slot_below x rest) (rest / 2) e) (sym is) q.1)
          (leads_on slots (p.ahead e h s));
    }

    -- or ends at an empty slot
    pub ends : 252 ≤ get_or slots slot 0 → EmptySlot rs slots i slot
    ends h = record {
      low = p.low;
      empty = h;
      rest = rest;
      way = p.way;
      none = λ e k s.
          let l = p.ahead e k s in
          ⊎_elim (λ (q : get_or slots slot 0 ≡ e). omega (arith, q, l.small, h))
          (λ (q : (get_or slots slot 0 < 252) × Leads slots (slot_below (get_or slots slot 0) rest) (rest / 2) e). omega (arith, q.0, h))
          (leads_on slots l);
    }
