-- Rows of jobs below a bound, position by position. Assumes nothing.
use mathlib.Core.Path.{◌≡◌, refl}
use mathlib.Core.Bool.{true, and-eq-true_iff}
use mathlib.Core.List.{List, [], ◌∷◌}
use Prim.Native.Nat.{ℕ, zero, suc, ◌≤◌, ◌<◌}
use native.Mathlib.Omega.{arith}
use lib.Dec.{ltb}
use lib.ListN.{length, get_or}
use borrow.Author.Tests.{ltb-true, lt-ltb}
use Rattle.bpa.specs.Plans.{all_below}

below_parts : (n x : ℕ) (xs : List ℕ) → all_below n (x ∷ xs) ≡ true → (x < n) × (all_below n xs ≡ true)
unfolding all_below
below_parts n x xs h = let p = (and-eq-true_iff (ltb x n) (all_below n xs)).0 h in (ltb-true x n p.0, p.1)

pub below_at : (n : ℕ) (xs : List ℕ) (k : ℕ) → all_below n xs ≡ true → k < length xs → get_or xs k 0 < n
below_at n [] k h l = absurd (omega arith)
below_at n (x ∷ xs) zero h l = (below_parts n x xs h).0
below_at n (x ∷ xs) (suc k) h l = below_at n xs k (below_parts n x xs h).1 (omega arith)

pub below_all : (n : ℕ) (xs : List ℕ) → ((k : ℕ) → k < length xs → get_or xs k 0 < n) → all_below n xs ≡ true
unfolding all_below
below_all n [] h = refl
below_all n (x ∷ xs) h =
    (and-eq-true_iff (ltb x n) (all_below n xs)).1 (lt-ltb x n (h 0 (omega arith)), below_all n xs (λ k l. h (suc k) (omega arith)))

pub below_more : (n m : ℕ) (xs : List ℕ) → n ≤ m → all_below n xs ≡ true → all_below m xs ≡ true
unfolding all_below
below_more n m [] l h = refl
below_more n m (x ∷ xs) l h =
    let p = below_parts n x xs h in
    (and-eq-true_iff (ltb x m) (all_below m xs)).1 (lt-ltb x m (omega (arith, p.0)), below_more n m xs l p.1)
