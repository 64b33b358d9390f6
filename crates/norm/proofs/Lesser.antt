-- The lesser of two norms: its laws, and the cheapest rule of a job rule by rule. Assumes nothing.
use mathlib.Core.Path.{◌≡◌, refl, sym, ap, ap₂, ◌∙◌}
use mathlib.Core.Bool.{Bool, true, false, ◌&&◌, cond}
use mathlib.Core.List.{List, ◌∷◌}
use Prim.Native.Nat.{ℕ, zero, suc, ◌≤◌, min}
use native.Mathlib.Nat.{suc-min-suc, min-zero}
use native.Mathlib.Omega.{arith}
use lib.Dec.{eqb}
use borrow.Author.Tests.{ne_eqb}
use Rattle.bpa.specs.Plans.{Rule}
use Rattle.bpa.specs.Norms.{sum_of, all_known, lesser, best}
use Rattle.bpa.proofs.Norm.NormRounds.{lesser_none, lesser_both}
use Rattle.norm.specs.NormArrays.{norm_by}

pub lesser_left : (b : ℕ) → lesser 0 b ≡ b
unfolding lesser
lesser_left b = refl

pub lesser_right : (a : ℕ) → lesser a 0 ≡ a
lesser_right zero = lesser_left 0
lesser_right (suc a) = lesser_none a

-- the lesser of two that are known
lesser_suc : (a b : ℕ) → lesser (suc a) (suc b) ≡ suc (min a b)
lesser_suc a b = lesser_both a b ∙ suc-min-suc a b

pub lesser_assoc : (a b c : ℕ) → lesser (lesser a b) c ≡ lesser a (lesser b c)
lesser_assoc zero b c = ap (λ (x : ℕ). lesser x c) (lesser_left b) ∙ sym (lesser_left (lesser b c))
lesser_assoc (suc a) zero c = ap (λ (x : ℕ). lesser x c) (lesser_none a) ∙ ap (lesser (suc a)) (sym (lesser_left c))
lesser_assoc (suc a) (suc b) zero = lesser_right (lesser (suc a) (suc b)) ∙ ap (lesser (suc a)) (sym (lesser_none b))
lesser_assoc (suc a) (suc b) (suc c) =
    let e : min (min a b) c ≡ min a (min b c) = omega arith in
    ap (λ (x : ℕ). lesser x (suc c)) (lesser_suc a b) ∙ lesser_suc (min a b) c ∙ ap suc e
    ∙ sym (lesser_suc a (min b c)) ∙ ap (lesser (suc a)) (sym (lesser_suc b c))

-- capping commutes with the lesser
pub lesser_cap : (m : ℕ) → 1 ≤ m → (a b : ℕ) → min m (lesser a b) ≡ lesser (min m a) (min m b)
lesser_cap m h zero b =
    ap (min m) (lesser_left b) ∙ sym (lesser_left (min m b)) ∙ ap (λ (x : ℕ). lesser x (min m b)) (sym (min-zero m))
lesser_cap m h (suc a) zero =
    ap (min m) (lesser_none a) ∙ sym (lesser_right (min m (suc a))) ∙ ap (lesser (min m (suc a))) (sym (min-zero m))
lesser_cap zero h (suc a) (suc b) = absurd (omega arith)
lesser_cap (suc m) h (suc a) (suc b) =
    let e : min m (min a b) ≡ min (min m a) (min m b) = omega arith in
    ap (min (suc m)) (lesser_suc a b) ∙ suc-min-suc m (min a b) ∙ ap suc e ∙ sym (lesser_suc (min m a) (min m b))
    ∙ sym (ap₂ lesser (suc-min-suc m a) (suc-min-suc m b))

by_choice : (b k : Bool) (s best_rest : ℕ) → cond (b && k) (lesser s best_rest) best_rest ≡ cond b (lesser (cond k s 0) best_rest) best_rest
by_choice true true s r = refl
by_choice true false s r = sym (lesser_left r)
by_choice false k s r = refl

-- the cheapest rule of a job, by the first rule and the others
pub best_cons : (j : ℕ) (ns : List ℕ) (r : Rule) (rs : List Rule) →
    best j ns (r ∷ rs) ≡ cond (eqb r.job j) (lesser (norm_by ns r.after) (best j ns rs)) (best j ns rs)
unfolding best norm_by
best_cons j ns r rs = by_choice (eqb r.job j) (all_known ns r.after) (suc (sum_of ns r.after)) (best j ns rs)

-- of two that are there it is the lesser
pub lesser_known : (a b : ℕ) → (a ≡ 0 → ⊥) → (b ≡ 0 → ⊥) → lesser a b ≡ min a b
unfolding lesser
lesser_known a b h k = rw (ne_eqb a 0 h, ne_eqb b 0 k)
