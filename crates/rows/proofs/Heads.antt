-- The leftmost difference of two plans by their heads. Assumes nothing.
use mathlib.Core.Path.{◌≡◌, refl, ◌∙◌}
use mathlib.Core.List.{List, [], ◌∷◌, ◌++◌}
use Prim.Native.Nat.{ℕ}
use borrow.Author.Tests.{eq-eqb, ne_eqb}
use Rattle.bpa.specs.Method.{first_difference, equal, ends, differ}

pub heads_equal : (x y : ℕ) (p q : List ℕ) → x ≡ y → first_difference (x ∷ p) (y ∷ q) ≡ first_difference p q
unfolding first_difference
heads_equal x y p q e = rw (eq-eqb x y e)

pub heads_differ : (x y : ℕ) (p q : List ℕ) → (x ≡ y → ⊥) → first_difference (x ∷ p) (y ∷ q) ≡ differ x y
unfolding first_difference
heads_differ x y p q d = rw (ne_eqb x y d)

pub both_end : first_difference [] [] ≡ equal
unfolding first_difference
both_end = refl

pub left_ends : (y : ℕ) (q : List ℕ) → first_difference [] (y ∷ q) ≡ ends
unfolding first_difference
left_ends y q = refl

pub right_ends : (x : ℕ) (p : List ℕ) → first_difference (x ∷ p) [] ≡ ends
unfolding first_difference
right_ends x p = refl

-- a common front is passed over
pub fronts_equal : (r p q : List ℕ) → first_difference (r ++ p) (r ++ q) ≡ first_difference p q
fronts_equal [] p q = refl
fronts_equal (x ∷ r) p q = heads_equal x x (r ++ p) (r ++ q) refl ∙ fronts_equal r p q
