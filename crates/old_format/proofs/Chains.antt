-- Two chains of checks that differ in the last one alone, which refuses by 5, and the refusals of a table behind them. Assumes nothing.
use mathlib.Core.Path.{◌≡◌, refl, sym, ap, ◌∙◌}
use mathlib.Core.Bool.{Bool, true, false, not, cond, true≢false}
use mathlib.Core.Logic.{◌↔◌}
use Prim.Native.Nat.{ℕ, zero, suc}
use native.Mathlib.Omega.{arith}
use Rattle.answer.specs.Refusals.{or_else}
use Rattle.answer.proofs.RefusalChains.{passed_first, refused_first, chain}
use Rattle.bpa.specs.Plans.{Table}
use Rattle.bpa.specs.Norms.{norms}
use Rattle.refusal.specs.Refusals.{any_zero, any_above, norms_refusal, table_refusal}

-- the last check, if what passes the second passes the first
abbrev last : Bool → ℕ
last b = cond (not b) 5 0

pub last_same : (p q : Bool) → (q ≡ true → p ≡ true) → (last q ≡ 5 → ⊥) → last p ≡ last q
last_same p true h other = ap (λ (b : Bool). cond (not b) 5 0) (h refl)
last_same p false h other = absurd (other refl)

-- a check before it
pub earlier_same : (b : Bool) (r : ℕ) {x y : ℕ} → ((y ≡ 5 → ⊥) → x ≡ y) → (cond (not b) r y ≡ 5 → ⊥) → cond (not b) r x ≡ cond (not b) r y
earlier_same true r h other = h other
earlier_same false r h other = refl

-- and the refusals of the table behind them
pub behind_same : {f f' g g' : ℕ} → ((f' ≡ 5 → ⊥) → f ≡ f') → (f' ≡ 0 → g ≡ g') → (or_else f' g' ≡ 5 → ⊥) → or_else f g ≡ or_else f' g'
behind_same {f} {f'} {g} {g'} h later other =
    let e : f ≡ f' = h (λ five. other (refused_first f' g' (λ z. omega arith) ∙ five)) in
    chain e (λ z. later (sym e ∙ z))

-- the last check once the earlier ones are past
pub five_last : (q : Bool) → (last q ≡ 5) ↔ (q ≡ false)
five_last true = (λ e. absurd (omega arith), λ e. absurd (true≢false e))
five_last false = (λ e. refl, λ e. refl)

-- a refusal by 5 is not one of a table
pub five_first : (f g : ℕ) → (g ≡ 5 → ⊥) → (or_else f g ≡ 5) ↔ (f ≡ 5)
five_first f g other = go f refl
  where
    go : (x : ℕ) → f ≡ x → (or_else f g ≡ 5) ↔ (f ≡ 5)
    go zero z = (λ e. absurd (other (sym (passed_first f g z) ∙ e)), λ e. absurd (omega arith))
    go (suc x) z =
        let same : or_else f g ≡ f = refused_first f g (λ d. omega arith) in
        (λ e. sym same ∙ e, λ e. same ∙ e)

other_norms : (a b : Bool) → ◌≡◌ {A = ℕ} (cond a 6 (cond b 7 0)) 5 → ⊥
other_norms true b e = omega arith
other_norms false true e = omega arith
other_norms false false e = omega arith

pub other_table : (t : Table) → table_refusal t ≡ 5 → ⊥
unfolding table_refusal norms_refusal
other_table t = other_norms (any_zero (norms t)) (any_above 512 (norms t))
