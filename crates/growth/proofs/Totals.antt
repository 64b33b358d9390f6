-- Numbers of the members of a list added up: none is more than the sum. Assumes nothing.
use mathlib.Core.Path.{◌≡◌, ap}
use mathlib.Core.List.Memᴰ
use mathlib.Core.List.{List, [], ◌∷◌, Memᴰ}
use mathlib.Core.Logic.{⊎_elim}
use Prim.Native.Nat.{ℕ, ◌+◌, ◌≤◌}
use native.Mathlib.Omega.{arith}

module _ {A : Type 0} (f : A → ℕ) where
  pub total : List A → ℕ
  total [] = 0
  total (x ∷ xs) = f x + total xs

  pub within_total : (x : A) (xs : List A) → Memᴰ x xs → f x ≤ total xs
  unfolding total
  within_total x [] m = absurd (Memᴰ.not-nil m)
  within_total x (y ∷ xs) m =
      ⊎_elim (λ (e : x ≡ y). omega (arith, ap f e)) (λ n. omega (arith, within_total x xs n)) (Memᴰ.cases_cons m)
