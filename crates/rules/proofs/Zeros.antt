-- Rows of zeros by the test for them. Assumes nothing.
use mathlib.Core.Path.{◌≡◌, refl, ap, ◌∙◌}
use mathlib.Core.Bool.{true}
use mathlib.Core.List.{List, [], ◌∷◌}
use Prim.Native.Nat.{ℕ, zero, suc}
use native.Mathlib.Omega.{arith}
use lib.Dec.{eqb}
use lib.ListN.{length, replicate}
use borrow.Author.Tests.{eqb-true, eq-eqb}
use Rattle.rules.specs.Places.{all_zero}
use Rattle.bpa.proofs.Basics.Cases.{and_left, and_right, and_both}

pub zeros_are : (n : ℕ) (l : List ℕ) → length l ≡ n → all_zero l ≡ true → l ≡ replicate n 0
unfolding all_zero
zeros_are zero [] e h = refl
zeros_are zero (x ∷ l) e h = absurd (omega arith)
zeros_are (suc n) [] e h = absurd (omega arith)
zeros_are (suc n) (x ∷ l) e h =
    ap (λ y. y ∷ l) (eqb-true x 0 (and_left (eqb x 0) (all_zero l) h))
    ∙ ap (λ r. 0 ∷ r) (zeros_are n l (omega arith) (and_right (eqb x 0) (all_zero l) h))

pub zeros_zero : (n : ℕ) → all_zero (replicate n 0) ≡ true
unfolding all_zero
zeros_zero zero = refl
zeros_zero (suc n) = and_both (eqb 0 0) (all_zero (replicate n 0)) (eq-eqb 0 0 refl) (zeros_zero n)
