-- The pass over a list of rules, rule by rule: an equal rule is kept for each that was passed, and no two of these are a choice of outcome.
-- Assumes nothing.
use mathlib.Core.Path.{◌≡◌, refl, sym, ap, ◌∙◌, subst}
use mathlib.Core.Bool.{true, false}
use mathlib.Core.List.{List}
use Prim.Native.Nat.{ℕ, ◌+◌, ◌≤◌, ◌<◌}
use native.Mathlib.Omega.{arith}
use lib.Dec.{eqb}
use lib.ListN.{length, get_or, set, replicate, length-set, length-replicate, get_or-replicate}
use lib.Seq.{get_or-set_same, get_or-set_other}
use borrow.Author.Count.{below_more}
use borrow.Author.Tests.{eqb-true, eqb-false}
use Rattle.bpa.specs.Plans.{Rule}
use Rattle.bpa.proofs.Basics.Cases.{by_test, is_false}
use Rattle.rules.specs.Places.{rule_at, rule_count, table_of}
use Rattle.rules.proofs.ListLaws.{rule_of, place_of_rule}
use Rattle.deterministic.specs.Deterministic.{no_choice}
use Rattle.deterministic.proofs.TestExact.{no_choice_exactly}
use Rattle.outcome_check.specs.RuleTrees.{SameStart, Kept, Rising, EmptySlot}
use Rattle.outcome_check.proofs.Ways.{leads_filled, leads_new}

-- before rule i
pub record Passing (rs slots : List ℕ) (i : ℕ) : Type 0 where
  pub size : length slots ≡ 2040
  pub rising : Rising slots i
  pub kept : (e : ℕ) → e < i → (d : ℕ) × Kept rs slots d × (rule_at rs d ≡ rule_at rs e)
  pub single : (e d : ℕ) → e < i → d < i → SameStart (rule_at rs e) (rule_at rs d) → (rule_at rs e).after ≡ (rule_at rs d).after

pub passing_start : (rs : List ℕ) → Passing rs (replicate 2040 255) 0
passing_start rs = record {
  size = length-replicate {A = ℕ} 2040 255;
  rising = λ s l h. absurd (omega (arith, h, get_or-replicate {A = ℕ} 2040 s 255 0 l));
  kept = λ e l. absurd (omega (arith, l));
  single = λ e d l. absurd (omega (arith, l));
}

module _ (rs slots : List ℕ) (i : ℕ) (p : Passing rs slots i) where
  abbrev rule : ℕ → Rule
  rule = rule_at rs

  -- one more rule: each that begins as it does has its row
  single_next : ((e : ℕ) → e < i → SameStart (rule e) (rule i) → (rule e).after ≡ (rule i).after) →
      (e d : ℕ) → e < i + 1 → d < i + 1 → SameStart (rule e) (rule d) → (rule e).after ≡ (rule d).after
  single_next this e d l k =
      below_more (λ (x : ℕ). SameStart (rule x) (rule d) → (rule x).after ≡ (rule d).after) i
      (λ x h.
      below_more (λ (y : ℕ). SameStart (rule x) (rule y) → (rule x).after ≡ (rule y).after) i (λ y m. p.single x y h m) (this x h) d k)
      (below_more (λ (y : ℕ). SameStart (rule i) (rule y) → (rule i).after ≡ (rule y).after) i
      (λ y m s. sym (this y m (record { job = sym s.job; move = sym s.move }))) (λ s. refl) d k)
      e l

  -- a rule that begins as an earlier one and has its row
  pub passing_again : (r : ℕ) → r < i → SameStart (rule r) (rule i) → (rule r).after ≡ (rule i).after → Passing rs slots (i + 1)
  passing_again r l s e = record {
    size = p.size;
    rising = λ x h k. let (before, above) = p.rising x h k in (omega (arith, before), above);
    kept =
        below_more (λ (x : ℕ). (d : ℕ) × Kept rs slots d × (rule d ≡ rule x)) i p.kept
        (let (d, k, same) = p.kept r l in (d, k, same ∙ (λ j. record { job = s.job j; move = s.move j; after = e j })));
    single = single_next (λ x h b. p.single x r h l (record { job = b.job ∙ sym s.job; move = b.move ∙ sym s.move }) ∙ e);
  }

  -- a rule as which none before it begins, put into its slot
  module _ (slot : ℕ) (f : EmptySlot rs slots i slot) (small : i < 252) where
    inside : slot < length slots
    inside = omega (arith, f.low, p.size)

    new : (e : ℕ) → e < i → SameStart (rule e) (rule i) → ⊥
    new e l s = let (d, k, same) = p.kept e l in f.none d k (subst (λ (r : Rule). SameStart r (rule i)) (sym same) s)

    rising_filled : Rising (set slots slot i) (i + 1)
    rising_filled s l h =
        by_test (eqb s slot)
        (λ t.
        let is = eqb-true s slot t in
        let held : get_or (set slots slot i) s 0 ≡ i = ap (λ (x : ℕ). get_or (set slots slot i) x 0) is ∙ get_or-set_same slots slot i 0 inside in
        (omega (arith, held), omega (arith, held, is, f.low)))
        (λ t.
        let held : get_or (set slots slot i) s 0 ≡ get_or slots s 0 = get_or-set_other slots slot s i 0 (eqb-false s slot t) in
        let (before, above) = p.rising s l (omega (arith, held, h)) in
        (omega (arith, held, before), omega (arith, held, above)))

    pub passing_new : Passing rs (set slots slot i) (i + 1)
    passing_new = record {
      size = length-set slots slot i ∙ p.size;
      rising = rising_filled;
      kept =
          below_more (λ (x : ℕ). (d : ℕ) × Kept rs (set slots slot i) d × (rule d ≡ rule x)) i
          (λ x h. let (d, k, same) = p.kept x h in (d, leads_filled slots slot i f.empty k, same))
          (i, leads_new slots slot i f.empty inside small f.way, refl);
      single = single_next (λ x h s. absurd (new x h s));
    }

-- THE ANSWER: the end of the list is reached, or two rules are a choice
module _ (jobs : ℕ) (rs : List ℕ) where
  pub passed_all : (slots : List ℕ) (i : ℕ) → Passing rs slots i → rule_count rs ≤ i → true ≡ no_choice (table_of jobs rs)
  passed_all slots i p h =
      sym
      ((no_choice_exactly (table_of jobs rs)).1
      (λ j a v w m k.
      let (e, l, x) = place_of_rule jobs rs j a v m in
      let (d, n, y) = place_of_rule jobs rs j a w k in
      let start : SameStart (rule_at rs e) (rule_at rs d) =
      record { job = ap (λ (r : Rule). r.job) x ∙ sym (ap (λ (r : Rule). r.job) y); move = ap (λ (r : Rule). r.move) x ∙ sym (ap (λ (r : Rule). r.move) y) } in
      sym (ap (λ (r : Rule). r.after) x) ∙ p.single e d (omega (arith, l, h)) (omega (arith, n, h)) start ∙ ap (λ (r : Rule). r.after) y))

  pub choice_found : (r i : ℕ) → r < rule_count rs → i < rule_count rs → SameStart (rule_at rs r) (rule_at rs i) →
      ((rule_at rs r).after ≡ (rule_at rs i).after → ⊥) → false ≡ no_choice (table_of jobs rs)
  choice_found r i l h s other =
      sym
      (is_false (no_choice (table_of jobs rs)) (λ e.
      let d = (no_choice_exactly (table_of jobs rs)).0 e in
      other (d (rule_at rs r).job (rule_at rs r).move (rule_at rs r).after (rule_at rs i).after (rule_of jobs rs r l)
      (rw (s.job, s.move) (rule_of jobs rs i h)))))
