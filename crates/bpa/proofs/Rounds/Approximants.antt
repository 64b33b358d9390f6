-- Matching for n rounds is an equivalence and a congruence, at every n. Assumes nothing.
use mathlib.Core.Path.{◌≡◌, refl, subst, sym}
use mathlib.Core.Bool.{true}
use mathlib.Core.List.{List, [], ◌∷◌, ◌++◌}
use Prim.Native.Nat.{ℕ, zero, suc, ◌≤◌, ◌<◌}
use native.Mathlib.Omega.{arith}
use Rattle.bpa.specs.Plans.{Table, over}
use Rattle.bpa.specs.Norms.{sum_of, Good}
use Rattle.bpa.specs.Bisimilar.{Simulates, Approx}
use Rattle.bpa.proofs.Basics.Plans.{over_one, step_append, step_front, step_over, step_slow, step_falls}

module _ (t : Table) where
  pub approx_refl : (n : ℕ) (p : List ℕ) → Approx t n p p
  approx_refl zero p = tt
  approx_refl (suc n) p = (λ a p' s. (p', s, approx_refl n p'), λ a p' s. (p', s, approx_refl n p'))

  pub approx_sym : (n : ℕ) (p q : List ℕ) → Approx t n p q → Approx t n q p
  approx_sym zero p q h = tt
  approx_sym (suc n) p q h = (h.1, h.0)

  pub approx_trans : (n : ℕ) (p q r : List ℕ) → Approx t n p q → Approx t n q r → Approx t n p r
  approx_trans zero p q r h k = tt
  approx_trans (suc n) p q r h k = (
    λ a p' s.
        let (q', s₁, h₁) = h.0 a p' s in
        let (r', s₂, h₂) = k.0 a q' s₁ in
        (r', s₂, approx_trans n p' q' r' h₁ h₂),
    λ a r' s.
        let (q', s₁, h₁) = k.1 a r' s in
        let (p', s₂, h₂) = h.1 a q' s₁ in
        (p', s₂, approx_trans n r' q' p' h₁ h₂),
  )

  pub approx_mono : (n m : ℕ) (p q : List ℕ) → n ≤ m → Approx t m p q → Approx t n p q
  approx_mono zero m p q le h = tt
  approx_mono (suc n) zero p q le h = absurd (omega arith)
  approx_mono (suc n) (suc m) p q le h = (
    λ a p' s. let (q', s₁, h₁) = h.0 a p' s in (q', s₁, approx_mono n m p' q' (omega arith) h₁),
    λ a q' s. let (p', s₁, h₁) = h.1 a q' s in (p', s₁, approx_mono n m q' p' (omega arith) h₁),
  )

module _ (t : Table) (ns : List ℕ) (g : Good t ns) where
  -- the empty plan, which has no step, matches no other
  pub empty_apart : (R : List ℕ → List ℕ → Type 0) (j : ℕ) (js : List ℕ) → over t (j ∷ js) ≡ true →
      Simulates t R (j ∷ js) [] → ⊥
  empty_apart R j js o h = let (a, q, s, e) = step_falls t ns g j js o in (h a q s).1

  append_simulates : (n j : ℕ) (js p' q q' : List ℕ) → over t (j ∷ js) ≡ true → over t p' ≡ true →
      ((m m' : List ℕ) → over t m ≡ true → over t m' ≡ true → Approx t n m m' → Approx t n (m ++ q) (m' ++ q')) →
      Simulates t (Approx t n) (j ∷ js) p' → Simulates t (Approx t n) ((j ∷ js) ++ q) (p' ++ q')
  append_simulates n j js p' q q' o o' f h a r s =
      let (m, s₁, e) = step_front t j js q r a s in
      let (m', s₂, k) = h a m s₁ in (
        m' ++ q',
        step_append t p' m' q' a s₂,
        subst (λ l. Approx t n l (m' ++ q')) (sym e)
            (f m m' (step_over t ns g (j ∷ js) m a o s₁) (step_over t ns g p' m' a o' s₂) k),
      )

  pub approx_append : (n : ℕ) (p p' q q' : List ℕ) → over t p ≡ true → over t p' ≡ true →
      Approx t n p p' → Approx t n q q' → Approx t n (p ++ q) (p' ++ q')
  approx_append zero p p' q q' o o' h k = tt
  approx_append (suc n) [] [] q q' o o' h k = k
  approx_append (suc n) [] (j ∷ js) q q' o o' h k = absurd (empty_apart (Approx t n) j js o' h.1)
  approx_append (suc n) (i ∷ is) [] q q' o o' h k = absurd (empty_apart (Approx t n) i is o h.0)
  approx_append (suc n) (i ∷ is) (j ∷ js) q q' o o' h k =
      let l : Approx t n q q' = approx_mono t n (suc n) q q' (omega arith) k in (
        append_simulates n i is (j ∷ js) q q' o o' (λ m m' u v x. approx_append n m m' q q' u v x l) h.0,
        append_simulates n j js (i ∷ is) q' q o' o
            (λ m m' u v x. approx_append n m m' q' q u v x (approx_sym t n q q' l)) h.1,
      )

  pub approx_cons : (n x : ℕ) (p q : List ℕ) → x < t.jobs → Approx t n p q → Approx t n (x ∷ p) (x ∷ q)
  approx_cons n x p q h k =
      approx_append n (x ∷ []) (x ∷ []) p q (over_one t x h) (over_one t x h) (approx_refl t n (x ∷ [])) k

  pub norms_agree : (n : ℕ) (p q : List ℕ) → over t p ≡ true → over t q ≡ true → sum_of ns p < n →
      Approx t n p q → sum_of ns p ≡ sum_of ns q
  norms_agree zero p q o o' lt h = absurd (omega arith)
  norms_agree (suc n) [] [] o o' lt h = refl
  norms_agree (suc n) [] (y ∷ ys) o o' lt h = absurd (empty_apart (Approx t n) y ys o' h.1)
  norms_agree (suc n) (x ∷ xs) [] o o' lt h = absurd (empty_apart (Approx t n) x xs o h.0)
  norms_agree (suc n) (x ∷ xs) (y ∷ ys) o o' lt h =
      let (a, m, s, e) = step_falls t ns g x xs o in
      let (m', s', h') = h.0 a m s in
      let (b, l, u, f) = step_falls t ns g y ys o' in
      let (l', u', k') = h.1 b l u in
      let i : sum_of ns m ≡ sum_of ns m' =
      norms_agree n m m' (step_over t ns g (x ∷ xs) m a o s) (step_over t ns g (y ∷ ys) m' a o' s') (omega arith) h' in
      let le : sum_of ns (y ∷ ys) ≤ sum_of ns (x ∷ xs) = omega (arith, step_slow t ns g (y ∷ ys) m' a s') in
      let j : sum_of ns l ≡ sum_of ns l' =
      norms_agree n l l' (step_over t ns g (y ∷ ys) l b o' u) (step_over t ns g (x ∷ xs) l' b o u') (omega arith) k' in
      omega (arith, step_slow t ns g (x ∷ xs) l' b u')
