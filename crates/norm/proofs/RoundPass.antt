-- A pass over the rules makes one round of norms, capped. Assumes nothing.
use mathlib.Core.Path.{◌≡◌, refl, sym, ap, ◌∙◌, subst}
use mathlib.Core.Bool.{Bool, cond}
use mathlib.Core.List.{List, map}
use Prim.Native.Nat.{ℕ, suc, ◌+◌, ◌≤◌, ◌<◌, min}
use native.Mathlib.Nat.{min-zero}
use native.Mathlib.Numerals.{add-one}
use native.Mathlib.Decide.{ℕ_discrete, dec_lt}
use native.Mathlib.Omega.{arith}
use lib.ListN.{length, get_or, set, replicate, length-set, get_or-map, get_or-eq_default}
use lib.Seq.{get_or-set_same, get_or-set_other}
use borrow.Author.Tests.{eq-eqb, ne_eqb}
use Rattle.bpa.specs.Plans.{Rule}
use Rattle.bpa.specs.Norms.{lesser, best, one_round, capped_round}
use Rattle.bpa.proofs.Basics.Zeros.{zeros_at}
use Rattle.bpa.proofs.Norm.NormRounds.{next, next_length, next_at}
use Rattle.rules.specs.Places.{rule_at, rule_count, table_of}
use Rattle.rules.proofs.ListLaws.{rules_from, rules_from_start, rules_from_cons, rules_from_end}
use Rattle.norm.specs.NormArrays.{Agree, norm_by}
use Rattle.norm.proofs.Lesser.{lesser_left, lesser_right, lesser_assoc, lesser_cap, best_cons}

-- norms are capped at 513
pub cap_positive : 1 ≤ 513
cap_positive = omega arith

module _ (m : ℕ) (one : 1 ≤ m) (n : ℕ) (old rs : List ℕ) where
  -- after the rules before i: what is found and what the others will give make the round
  pub record Passed (i : ℕ) (new : List ℕ) : Type 0 where
    pub size : length new ≡ 24
    pub least : (j : ℕ) → lesser (get_or new j 0) (min m (best j old (rules_from rs i))) ≡ min m (best j old (table_of n rs).rules)
    pub others : (j : ℕ) → n ≤ j → get_or new j 0 ≡ 0

  pub passed_none : Passed 0 (replicate 24 0)
  passed_none = record {
    size = refl;
    least = λ j. ap (λ (x : ℕ). lesser x (min m (best j old (rules_from rs 0)))) (zeros_at 24 j) ∙ lesser_left _
        ∙ ap (λ (l : List Rule). min m (best j old l)) (rules_from_start n rs);
    others = λ j h. zeros_at 24 j;
  }

  module _ (i : ℕ) (new : List ℕ) (v : ℕ) (h : i < rule_count rs) (inside : (rule_at rs i).job < n) (few : n ≤ 24)
      (is : v ≡ min m (norm_by old (rule_at rs i).after)) (p : Passed i new) where
    job : ℕ
    job = (rule_at rs i).job

    others_kept : (j : ℕ) → n ≤ j → get_or (set new job (lesser (get_or new job 0) v)) j 0 ≡ 0
    unfolding job
    others_kept j l = get_or-set_other new job j _ 0 (λ e. absurd (omega arith)) ∙ p.others j l

    turn_at : (j : ℕ) → Dec (j ≡ job) →
        lesser (get_or (set new job (lesser (get_or new job 0) v)) j 0) (min m (best j old (rules_from rs (suc i))))
        ≡ min m (best j old (table_of n rs).rules)
    unfolding job
    turn_at j (yes e) =
        let rest = best j old (rules_from rs (suc i)) in
        let found = get_or new j 0 in
        let by_rule = norm_by old (rule_at rs i).after in
        let cheapest : best j old (rules_from rs i) ≡ lesser by_rule rest =
        ap (best j old) (rules_from_cons rs i h) ∙ best_cons j old (rule_at rs i) (rules_from rs (suc i))
        ∙ ap (λ (b : Bool). cond b (lesser by_rule rest) rest) (eq-eqb (rule_at rs i).job j (sym e)) in
        let stored : get_or (set new (rule_at rs i).job (lesser (get_or new (rule_at rs i).job 0) v)) j 0 ≡ lesser found v =
        ap (λ (k : ℕ). get_or (set new k (lesser (get_or new k 0) v)) j 0) (sym e)
        ∙ get_or-set_same new j (lesser found v) 0 (omega (arith, p.size)) in
        ap (λ (x : ℕ). lesser x (min m rest)) stored ∙ lesser_assoc found v (min m rest)
        ∙ ap (lesser found) (ap (λ (x : ℕ). lesser x (min m rest)) is ∙ sym (lesser_cap m one by_rule rest) ∙ ap (min m) (sym cheapest))
        ∙ p.least j
    turn_at j (no d) =
        let rest = best j old (rules_from rs (suc i)) in
        let cheapest : best j old (rules_from rs i) ≡ rest =
        ap (best j old) (rules_from_cons rs i h) ∙ best_cons j old (rule_at rs i) (rules_from rs (suc i))
        ∙ ap (λ (b : Bool). cond b (lesser (norm_by old (rule_at rs i).after) rest) rest) (ne_eqb (rule_at rs i).job j (λ e. d (sym e))) in
        ap (λ (x : ℕ). lesser x (min m rest)) (get_or-set_other new (rule_at rs i).job j _ 0 d)
        ∙ ap (λ (x : ℕ). lesser (get_or new j 0) (min m x)) (sym cheapest) ∙ p.least j

    turned : Passed (suc i) (set new (rule_at rs i).job (lesser (get_or new (rule_at rs i).job 0) v))
    unfolding job
    turned = record {
      size = length-set new (rule_at rs i).job _ ∙ p.size;
      least = λ j. turn_at j (ℕ_discrete j (rule_at rs i).job);
      others = others_kept;
    }

    pub passed_more : (at found : ℕ) → at ≡ (rule_at rs i).job → found ≡ lesser (get_or new at 0) v → Passed (i + 1) (set new at found)
    passed_more at found e f =
        subst (λ (k : ℕ). Passed k (set new at found)) (sym (add-one i))
        (subst (λ (x : ℕ). Passed (suc i) (set new at x)) (sym f)
        (subst (λ (x : ℕ). Passed (suc i) (set new x (lesser (get_or new x 0) v))) (sym e) turned))

  -- what is found at the end is the round
  found_at : (i : ℕ) (new : List ℕ) → rule_count rs ≤ i → Passed i new → (j : ℕ) →
      get_or new j 0 ≡ min m (best j old (table_of n rs).rules)
  unfolding best
  found_at i new h p j =
      sym (lesser_right (get_or new j 0)) ∙ ap (lesser (get_or new j 0)) (sym (min-zero m))
      ∙ ap (λ (l : List Rule). lesser (get_or new j 0) (min m (best j old l))) (sym (rules_from_end rs i h)) ∙ p.least j

  round_at : (j : ℕ) → get_or (capped_round m (table_of n rs) old) j 0 ≡ min m (get_or (next (table_of n rs) old) j 0)
  unfolding capped_round next
  round_at j =
      let l = one_round (table_of n rs).jobs 0 old (table_of n rs).rules in
      subst (λ (d : ℕ). get_or (map (min m) l) j d ≡ min m (get_or l j 0)) (min-zero m) (get_or-map (min m) l j 0)

  agrees_at : (i : ℕ) (new : List ℕ) → rule_count rs ≤ i → Passed i new → (j : ℕ) → Dec (j < n) →
      get_or new j 0 ≡ min m (get_or (next (table_of n rs) old) j 0)
  unfolding table_of
  agrees_at i new h p j (yes l) = found_at i new h p j ∙ ap (min m) (sym (next_at (table_of n rs) old j l))
  agrees_at i new h p j (no d) =
      p.others j (omega arith) ∙ sym (min-zero m)
      ∙ ap (min m) (sym (get_or-eq_default (next (table_of n rs) old) 0 (omega (arith, next_length (table_of n rs) old))))

  pub passed_all : (i : ℕ) (new : List ℕ) → rule_count rs ≤ i → Passed i new → Agree new (capped_round m (table_of n rs) old)
  passed_all i new h p j = agrees_at i new h p j (dec_lt j n) ∙ sym (round_at j)
