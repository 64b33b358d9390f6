-- The order of jobs, by norm and then by number, is strict and total. Assumes nothing.
use mathlib.Core.Path.{◌≡◌, refl, ap}
use mathlib.Core.Bool.{true, false, ◌&&◌}
use mathlib.Core.List.{List}
use mathlib.Core.Logic.{◌⊎◌, inl, inr, ⊎_elim}
use Prim.Native.Nat.{ℕ, ◌≤◌, ◌<◌}
use native.Mathlib.Omega.{arith}
use lib.Dec.{ltb, eqb}
use lib.ListN.{get_or}
use borrow.Author.Tests.{ltb-true, ltb-false, lt-ltb, eqb-true, eq-eqb}
use Rattle.bpa.specs.Method.{precedes}
use Rattle.bpa.proofs.Basics.Cases.{by_test, and_left, and_right, and_both, or_cases, or_right, is_false, never_both}

module _ (ns : List ℕ) where
  -- what the test says
  pub precedes_cases : (x y : ℕ) → precedes ns x y ≡ true →
      (get_or ns x 0 < get_or ns y 0) ⊎ ((get_or ns x 0 ≡ get_or ns y 0) × (x < y))
  unfolding precedes
  precedes_cases x y h =
      let e = eqb (get_or ns x 0) (get_or ns y 0) in
      ⊎_elim (λ k. inl (ltb-true (get_or ns x 0) (get_or ns y 0) k))
      (λ k. inr (eqb-true (get_or ns x 0) (get_or ns y 0) (and_left e (ltb x y) k), ltb-true x y (and_right e (ltb x y) k)))
      (or_cases (ltb (get_or ns x 0) (get_or ns y 0)) (e && ltb x y) h)

  pub less_precedes : (x y : ℕ) → get_or ns x 0 < get_or ns y 0 → precedes ns x y ≡ true
  unfolding precedes
  less_precedes x y h = rw (lt-ltb (get_or ns x 0) (get_or ns y 0) h)

  pub tie_precedes : (x y : ℕ) → get_or ns x 0 ≡ get_or ns y 0 → x < y → precedes ns x y ≡ true
  unfolding precedes
  tie_precedes x y e h =
      or_right (ltb (get_or ns x 0) (get_or ns y 0)) (eqb (get_or ns x 0) (get_or ns y 0) && ltb x y)
      (and_both (eqb (get_or ns x 0) (get_or ns y 0)) (ltb x y) (eq-eqb (get_or ns x 0) (get_or ns y 0) e) (lt-ltb x y h))

  pub precedes_le : (x y : ℕ) → precedes ns x y ≡ true → get_or ns x 0 ≤ get_or ns y 0
  precedes_le x y h =
      ⊎_elim (λ (k : get_or ns x 0 < get_or ns y 0). omega arith)
      (λ (k : (get_or ns x 0 ≡ get_or ns y 0) × (x < y)). omega arith) (precedes_cases x y h)

  pub precedes_distinct : (x y : ℕ) → precedes ns x y ≡ true → x ≡ y → ⊥
  precedes_distinct x y h e =
      let n : get_or ns x 0 ≡ get_or ns y 0 = ap (λ z. get_or ns z 0) e in
      ⊎_elim (λ (k : get_or ns x 0 < get_or ns y 0). omega arith)
      (λ (k : (get_or ns x 0 ≡ get_or ns y 0) × (x < y)). omega arith) (precedes_cases x y h)

  pub precedes_trans : (x y z : ℕ) → precedes ns x y ≡ true → precedes ns y z ≡ true → precedes ns x z ≡ true
  precedes_trans x y z h k =
      ⊎_elim (λ (l : get_or ns x 0 < get_or ns y 0). less_precedes x z (omega (arith, precedes_le y z k)))
      (λ (l : (get_or ns x 0 ≡ get_or ns y 0) × (x < y)).
      ⊎_elim (λ (m : get_or ns y 0 < get_or ns z 0). less_precedes x z (omega arith))
      (λ (m : (get_or ns y 0 ≡ get_or ns z 0) × (y < z)). tie_precedes x z (omega arith) (omega arith))
      (precedes_cases y z k)) (precedes_cases x y h)

  pub precedes_once : (x y : ℕ) → precedes ns x y ≡ true → precedes ns y x ≡ false
  precedes_once x y h =
      is_false (precedes ns y x) (λ k. precedes_distinct x x (precedes_trans x y x h k) refl)

  pub precedes_total : (x y : ℕ) → (x ≡ y → ⊥) → precedes ns x y ≡ false → precedes ns y x ≡ true
  precedes_total x y d h =
      by_test (ltb (get_or ns y 0) (get_or ns x 0)) (λ k. less_precedes y x (ltb-true (get_or ns y 0) (get_or ns x 0) k))
      (λ k. by_test (ltb (get_or ns x 0) (get_or ns y 0))
      (λ l. absurd (never_both (precedes ns x y) (less_precedes x y (ltb-true (get_or ns x 0) (get_or ns y 0) l)) h))
      (λ l.
      let e : get_or ns x 0 ≡ get_or ns y 0 =
      omega (arith, ltb-false (get_or ns y 0) (get_or ns x 0) k, ltb-false (get_or ns x 0) (get_or ns y 0) l) in
      by_test (ltb x y) (λ m. absurd (never_both (precedes ns x y) (tie_precedes x y e (ltb-true x y m)) h))
      (λ m. tie_precedes y x (omega arith) (omega (arith, ltb-false x y m)))))
