-- Rows of numbers in dictionary order: numbers that are equal from the front decide nothing, the first that are not do.
-- Assumes nothing.
use mathlib.Core.Path.{◌≡◌, refl, sym, ap, ap₂, ◌∙◌, subst₂}
use mathlib.Core.Bool.{false, true≢false}
use mathlib.Core.List.{List, [], ◌∷◌, ◌++◌}
use mathlib.Core.Logic.{inl, inr, ⊎_elim}
use Prim.Native.Nat.{ℕ, suc, ◌≤◌, ◌<◌}
use native.Mathlib.Omega.{arith}
use lib.ListN.{length, get_or, take, drop}
use lib.Seq.{take_all, split_at}
use borrow.Author.Tests.{ltb-true, lt-ltb}
use Rattle.std.specs.Prelude.{IsTrue, ◌↔◌, nat_lt}
use Rattle.first_run.specs.FirstRun.{Before}
use Rattle.first_run.proofs.DictionaryOrder.{before_asym}
use Rattle.comparing.specs.Comparisons.{Common}

-- behind an equal front the lesser number comes first
before_here : (w : List ℕ) (a b : ℕ) (u v : List ℕ) → a < b → Before (w ++ (a ∷ u)) (w ++ (b ∷ v))
unfolding Before
before_here [] a b u v l = inl l
before_here (x ∷ w) a b u v l = inr (refl, before_here w a b u v l)

before_lesser : (w : List ℕ) (a b : ℕ) (u v : List ℕ) → (a ≡ b → ⊥) → Before (w ++ (a ∷ u)) (w ++ (b ∷ v)) → a < b
unfolding Before
before_lesser [] a b u v n h = ⊎_elim (λ l. l) (λ p. absurd (n p.0)) h
before_lesser (x ∷ w) a b u v n h = ⊎_elim (λ (l : x < x). absurd (omega arith)) (λ p. before_lesser w a b u v n p.1) h

module _ (left right : List ℕ) (k : ℕ) (c : Common left right k) where
  -- every number was equal
  pub all_equal : length left ≤ k → length right ≤ k → IsTrue false ↔ Before left right
  all_equal l r =
      let same : left ≡ right = sym (take_all k left l) ∙ c.equal ∙ take_all k right r in (
        λ t. absurd (true≢false (sym t)),
        λ b. absurd (let h : Before right right = rw same at b in before_asym right right h h),
      )

  -- the next numbers are not
  pub place_unequal : k < length left → k < length right → (x y : ℕ) → x ≡ get_or left k 0 → y ≡ get_or right k 0 →
      (x ≡ y → ⊥) → IsTrue (nat_lt x y) ↔ Before left right
  place_unequal l r x y p q n =
      let w = take k right in
      let u = drop (suc k) left in
      let v = drop (suc k) right in
      let a : left ≡ w ++ (x ∷ u) = split_at left k 0 l ∙ ap₂ (λ (z : List ℕ) (m : ℕ). z ++ (m ∷ u)) c.equal (sym p) in
      let b : right ≡ w ++ (y ∷ v) = split_at right k 0 r ∙ ap (λ (m : ℕ). w ++ (m ∷ v)) (sym q) in (
        λ t. subst₂ Before (sym a) (sym b) (before_here w x y u v (ltb-true x y t)),
        λ h. lt-ltb x y (before_lesser w x y u v n (subst₂ Before a b h)),
      )
