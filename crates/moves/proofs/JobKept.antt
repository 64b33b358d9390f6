-- The buckets hold an equal rule for each rule of the job that was passed, so a rule that they deny is a new one. Assumes nothing.
use mathlib.Core.Path.{◌≡◌, refl, sym, ap, ◌∙◌, subst}
use mathlib.Core.Bool.{true, false}
use mathlib.Core.List.{List}
use Prim.Native.Nat.{ℕ, suc, ◌+◌, ◌*◌, ◌<◌}
use native.Mathlib.Omega.{arith}
use lib.Dec.{ltb}
use lib.ListN.{length, get_or, set}
use borrow.Author.Tests.{ltb-true, ltb-false}
use Rattle.bpa.specs.Plans.{Rule}
use Rattle.bpa.proofs.Basics.Cases.{by_test, is_false}
use Rattle.rules.specs.Places.{rule_at, rule_count}
use Rattle.rules.specs.Lists.{GoodList}
use Rattle.rules.proofs.PlaceBack.{same_bytes}
use Rattle.repeated.specs.Repeated.{Repeated, place_at, bucket_of, Leads, Kept}
use Rattle.repeated.proofs.KeptRules.{kept_later, kept_added, kept_still}
use Rattle.moves.specs.Shown.{move_by}
use Rattle.moves.proofs.OneCombination.{one_combination}
use Rattle.moves.proofs.PassedMoves.{was_passed}
use Rattle.moves.proofs.NthRule.{made, passed, was_made, made_by}

-- each rule of the job before i is equal to one that is kept
abbrev pub JobKept : (rs : List ℕ) (j : ℕ) (links last : List ℕ) (i : ℕ) → Type 0
JobKept rs j links last i = (e : ℕ) → e < i → (rule_at rs e).job ≡ j → (d : ℕ) × Kept rs links last i d × (place_at rs d ≡ place_at rs e)

module _ (n : ℕ) (rs : List ℕ) (good : GoodList n rs) (bytes : (k : ℕ) → get_or rs k 0 < 256) (j : ℕ) (links last : List ℕ) (i : ℕ)
    (h : i < rule_count rs) (kept : JobKept rs j links last i) where
  -- rules before the next one: those before this one, and this one
  next_rule : (links' last' : List ℕ) → ((d : ℕ) → Kept rs links last i d → Kept rs links' last' (suc i) d) →
      ((rule_at rs i).job ≡ j → (d : ℕ) × Kept rs links' last' (suc i) d × (place_at rs d ≡ place_at rs i)) → JobKept rs j links' last' (suc i)
  next_rule links' last' still this e l is =
      by_test (ltb e i)
      (λ t. let (d, k, same) = kept e (ltb-true e i t) is in (d, still d k, same))
      (λ f.
      let here : i ≡ e = let g = ltb-false e i f in omega (arith, l) in
      let (d, k, same) = this (ap (λ (x : ℕ). (rule_at rs x).job) here ∙ is) in
      (d, k, same ∙ ap (place_at rs) here))

  pub kept_past : ((rule_at rs i).job ≡ j → ⊥) → JobKept rs j links last (suc i)
  kept_past other = next_rule links last (kept_later rs links last i) (λ is. absurd (other is))

  pub kept_again : Repeated rs i → JobKept rs j links last (suc i)
  kept_again r = next_rule links last (kept_later rs links last i) (λ is.
      let (d, k, same) = kept r.earlier r.before (ap (λ (x : Rule). x.job) r.same ∙ is) in (
        d,
        kept_later rs links last i d k,
        same ∙ same_bytes n rs good r.earlier i (let l = r.before in omega arith) h (bytes (8 * r.earlier + 1)) (bytes (8 * i + 1)) r.same,
      ))

  pub kept_new : i < 252 → length links ≡ 252 → length last ≡ 64 → (b : ℕ) → b < 64 → b ≡ bucket_of (place_at rs i) →
      JobKept rs j (set links i (get_or last b 0)) (set last b i) (suc i)
  kept_new small size sizes b l is =
      next_rule (set links i (get_or last b 0)) (set last b i) (kept_still rs links last i b small size (omega arith))
      (λ o. (i, kept_added rs links last i b small size (omega arith) is, refl))

  -- the answer of the buckets, as moves: a rule that stands again makes a move that was made, and another one makes a new move
  module _ (own : (rule_at rs i).job ≡ j) where
    pub made_again : Repeated rs i → (w : List ℕ) → was_passed (passed rs j w i) (made rs j w i) ≡ true
    made_again r w =
        was_made rs j w (made rs j w i) i r.earlier r.before (ap (λ (x : Rule). x.job) r.same ∙ own)
        (ap (λ (x : Rule). move_by x w) r.same)

    module _ (b : ℕ) (is : b ≡ bucket_of (place_at rs i))
        (denied : get_or last b 0 < i → (e : ℕ) → Leads links (get_or last b 0) e → place_at rs e ≡ place_at rs i → ⊥) where
      none_equal : (e : ℕ) → e < i → (rule_at rs e).job ≡ j → rule_at rs e ≡ rule_at rs i → ⊥
      none_equal e l o same =
          let (d, k, at) = kept e l o in
          let place : place_at rs d ≡ place_at rs i = at ∙ same_bytes n rs good e i (omega (arith, l, h)) h (bytes (8 * e + 1)) (bytes (8 * i + 1)) same in
          let bucket : bucket_of (place_at rs d) ≡ b = ap bucket_of place ∙ sym is in
          denied (subst (λ (x : ℕ). get_or last x 0 < i) bucket k.first) d (subst (λ (x : ℕ). Leads links (get_or last x 0) d) bucket k.leads) place

      pub made_new : (w : List ℕ) → was_passed (passed rs j w i) (made rs j w i) ≡ false
      made_new w = is_false (was_passed (passed rs j w i) (made rs j w i)) (λ t.
          let (e, l, o, same) = made_by rs j w (made rs j w i) i t in
          let (a, c) = (one_combination (rule_at rs e) (rule_at rs i) w).0 same in
          none_equal e l o (λ k. record { job = (o ∙ sym own) k; move = a k; after = c k }))
