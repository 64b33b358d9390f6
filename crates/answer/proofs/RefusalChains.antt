-- One refusal after another: the laws of `or_else`. Assumes nothing.
use mathlib.Core.Path.{◌≡◌, refl, sym, ap, ◌∙◌}
use mathlib.Core.Bool.{Bool, cond}
use Prim.Native.Nat.{ℕ, zero, suc}
use native.Mathlib.Omega.{arith}
use lib.Dec.{eqb, eqb-suc-zero}
use borrow.Author.Tests.{ne_eqb}
use Rattle.answer.specs.Refusals.{or_else}

-- a refusal, then any other
pub refused_first : (f g : ℕ) → (f ≡ 0 → ⊥) → or_else f g ≡ f
unfolding or_else
refused_first f g h = ap (λ (b : Bool). cond b g f) (ne_eqb f 0 h)

-- none, then another
pub passed_first : (f g : ℕ) → f ≡ 0 → or_else f g ≡ g
unfolding or_else
passed_first f g h = ap (λ (x : ℕ). cond (eqb x 0) g x) h

-- a refusal, then none
pub then_none : (f : ℕ) → or_else f 0 ≡ f
then_none zero = passed_first 0 0 refl
then_none (suc f) = refused_first (suc f) 0 (λ z. omega (arith, z))

-- neither of two
pub neither : (f g : ℕ) → or_else f g ≡ 0 → (f ≡ 0) × (g ≡ 0)
unfolding or_else
neither zero g h = (refl, h)
neither (suc f) g h = let e = sym (ap (λ (b : Bool). cond b g (suc f)) (eqb-suc-zero f)) ∙ h in absurd (omega arith)

pub both_pass : (f g : ℕ) → f ≡ 0 → g ≡ 0 → or_else f g ≡ 0
both_pass f g p q = passed_first f g p ∙ q

-- A CHAIN may work out its later refusals from what has a meaning only once the earlier ones are past
pub chain : {f f' g g' : ℕ} → f ≡ f' → (f ≡ 0 → g ≡ g') → or_else f g ≡ or_else f' g'
chain {f} {f'} {g} {g'} e h = go f refl
  where
    go : (x : ℕ) → f ≡ x → or_else f g ≡ or_else f' g'
    go zero z = passed_first f g z ∙ h z ∙ sym (passed_first f' g' (sym e ∙ z))
    go (suc x) z =
        let no : f ≡ 0 → ⊥ = λ d. omega arith in
        refused_first f g no ∙ e ∙ sym (refused_first f' g' (λ d. no (e ∙ d)))

-- the same where the code returns before the later ones, and where it goes on to them
pub stops : {f f' : ℕ} (g : ℕ) → f ≡ f' → (f ≡ 0 → ⊥) → f ≡ or_else f' g
stops {f} g e h = sym (refused_first f g h) ∙ chain e (λ z. refl)

pub goes_on : {f f' g g' : ℕ} → f ≡ f' → f ≡ 0 → g ≡ g' → g ≡ or_else f' g'
goes_on {f} {g = g} e z d = sym (passed_first f g z) ∙ chain e (λ x. d)
