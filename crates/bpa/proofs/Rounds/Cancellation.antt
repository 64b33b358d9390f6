-- Cancellation and the splitting of two plans at their heads (000's Lemmas 2.1 to 2.8), with the rounds that they cost. Assumes nothing.
use mathlib.Core.Path.{◌≡◌, sym, subst}
use mathlib.Core.Bool.{true}
use mathlib.Core.List.{List, [], ◌∷◌, ◌++◌}
use Prim.Native.Nat.{ℕ, zero, suc, ◌+◌, ◌≤◌, ◌<◌}
use native.Mathlib.Omega.{arith}
use lib.ListN.{get_or}
use Rattle.bpa.specs.Plans.{Table, over}
use Rattle.bpa.specs.Norms.{sum_of, Good}
use Rattle.bpa.specs.Bisimilar.{Simulates, Approx}
use Rattle.bpa.proofs.Basics.Plans.{over_head, over_tail, over_cons, over_one, over_append, sum_append, sum_one, step_append, step_front, step_over, length_norm}
use Rattle.bpa.proofs.Rounds.Approximants.{approx_refl, approx_sym, approx_trans, approx_mono, approx_cons, norms_agree}
use Rattle.bpa.proofs.Rounds.Reductions.{Reduces, reduces_over, reduces_norm, reduces_matched, reduces_front, reduces_away, reduces_exists}

module _ (t : Table) (ns : List ℕ) (g : Good t ns) where
  pub cancel_left : (n k : ℕ) (r p q : List ℕ) → over t r ≡ true → over t p ≡ true → over t q ≡ true →
      n + sum_of ns r ≤ k → sum_of ns p < n → Approx t k (r ++ p) (r ++ q) → Approx t n p q
  cancel_left n k r p q oᵣ oₚ o le lt h =
      let (q', u, h') =
      reduces_matched t ns g n (sum_of ns r) k (r ++ p) (r ++ q) p
      (over_append t r p oᵣ oₚ) (over_append t r q oᵣ o) le lt h (reduces_exists t ns g r p oᵣ) in
      subst (λ l. Approx t n p l) (reduces_away t ns g r q q' oᵣ u) h'

  -- a plan does not match itself behind a job: their norms differ
  norm_apart : (k j : ℕ) (js r : List ℕ) → over t (j ∷ js) ≡ true → over t r ≡ true → sum_of ns r < k →
      Approx t k r ((j ∷ js) ++ r) → ⊥
  norm_apart k j js r o oᵣ lt h =
      omega (
        arith,
        norms_agree t ns g k r ((j ∷ js) ++ r) oᵣ (over_append t (j ∷ js) r o oᵣ) lt h,
        sum_append ns (j ∷ js) r,
        length_norm t ns g (j ∷ js) o,
      )

  right_simulates : (n k : ℕ) (p : List ℕ) (j : ℕ) (js r : List ℕ) → over t p ≡ true → over t (j ∷ js) ≡ true →
      ((m m' : List ℕ) → over t m ≡ true → over t m' ≡ true → Approx t k (m ++ r) (m' ++ r) → Approx t n m m') →
      Simulates t (Approx t k) (p ++ r) ((j ∷ js) ++ r) → Simulates t (Approx t n) p (j ∷ js)
  right_simulates n k p j js r o o' f h a m s =
      let (l, u, h') = h a (m ++ r) (step_append t p m r a s) in
      let (m', u', e) = step_front t j js r l a u in (
        m',
        u',
        f m m' (step_over t ns g p m a o s) (step_over t ns g (j ∷ js) m' a o' u')
            (subst (λ x. Approx t k (m ++ r) x) e h'),
      )

  pub cancel_right : (n k : ℕ) (p q r : List ℕ) → over t p ≡ true → over t q ≡ true → over t r ≡ true →
      n + sum_of ns r ≤ k → Approx t k (p ++ r) (q ++ r) → Approx t n p q
  cancel_right zero k p q r oₚ o oᵣ le h = tt
  cancel_right (suc n) zero p q r oₚ o oᵣ le h = absurd (omega arith)
  cancel_right (suc n) (suc k) [] [] r oₚ o oᵣ le h = approx_refl t (suc n) []
  cancel_right (suc n) (suc k) [] (y ∷ ys) r oₚ o oᵣ le h = absurd (norm_apart (suc k) y ys r o oᵣ (omega arith) h)
  cancel_right (suc n) (suc k) (x ∷ xs) [] r oₚ o oᵣ le h =
      absurd (norm_apart (suc k) x xs r oₚ oᵣ (omega arith) (approx_sym t (suc k) ((x ∷ xs) ++ r) r h))
  cancel_right (suc n) (suc k) (x ∷ xs) (y ∷ ys) r oₚ o oᵣ le h = (
    right_simulates n k (x ∷ xs) y ys r oₚ o (λ m m' u v. cancel_right n k m m' r u v oᵣ (omega arith)) h.0,
    right_simulates n k (y ∷ ys) x xs r o oₚ (λ m m' u v. cancel_right n k m m' r u v oᵣ (omega arith)) h.1,
  )

  -- two plans with different heads: the greater head is the lesser followed by one of its reducts
  pub split : (n m k : ℕ) (x y : ℕ) (α β : List ℕ) → over t (x ∷ α) ≡ true → over t (y ∷ β) ≡ true →
      get_or ns x 0 ≤ get_or ns y 0 → m + get_or ns x 0 ≤ k → sum_of ns α < m → n + sum_of ns β ≤ m →
      Approx t k (x ∷ α) (y ∷ β) →
      (δ : List ℕ) × Reduces t ns (get_or ns x 0) (y ∷ []) δ × Approx t m α (δ ++ β) × Approx t n (y ∷ []) (x ∷ δ)
  split n m k x y α β oₓ o le a b c h =
      let hx : x < t.jobs = over_head t x α oₓ in
      let hy : over t (y ∷ []) ≡ true = over_one t y (over_head t y β o) in
      let (s, u, h₁) =
      reduces_matched t ns g m (get_or ns x 0) k (x ∷ α) (y ∷ β) α oₓ o a b h
      (subst (λ v. Reduces t ns v (x ∷ α) α) (sum_one ns x) (reduces_exists t ns g (x ∷ []) α (over_one t x hx))) in
      let (δ, w, e) = reduces_front t ns g (get_or ns x 0) (y ∷ []) β s hy (omega (arith, sum_one ns y)) u in
      let h₂ : Approx t m α (δ ++ β) = subst (λ l. Approx t m α l) e h₁ in
      let h₃ : Approx t m (x ∷ α) (x ∷ (δ ++ β)) = approx_cons t ns g m x α (δ ++ β) hx h₂ in
      let h₄ : Approx t m (y ∷ β) (x ∷ α) =
      approx_sym t m (x ∷ α) (y ∷ β) (approx_mono t m k (x ∷ α) (y ∷ β) (omega arith) h) in (
        δ,
        w,
        h₂,
        cancel_right n m (y ∷ []) (x ∷ δ) β hy
            (over_cons t x δ hx (reduces_over t ns g (get_or ns x 0) (y ∷ []) δ hy w)) (over_tail t y β o) c
            (approx_trans t m (y ∷ β) (x ∷ α) (x ∷ (δ ++ β)) h₄ h₃),
      )

  -- any reduct will do, so one candidate for a pair is enough (000's Lemma 2.8)
  pub any_reduct : (n k : ℕ) (x y : ℕ) (δ ε : List ℕ) → x < t.jobs → y < t.jobs → over t δ ≡ true →
      n + get_or ns x 0 ≤ k → get_or ns y 0 < n + get_or ns x 0 → Reduces t ns (get_or ns x 0) (y ∷ []) ε →
      Approx t k (y ∷ []) (x ∷ δ) → Approx t n (y ∷ []) (x ∷ ε)
  any_reduct n k x y δ ε hx hy o le lt r h =
      let (s, u, h₁) =
      reduces_matched t ns g n (get_or ns x 0) k (y ∷ []) (x ∷ δ) ε (over_one t y hy) (over_cons t x δ hx o) le
      (omega (arith, reduces_norm t ns g (get_or ns x 0) (y ∷ []) ε r, sum_one ns y)) h r in
      let e : s ≡ δ =
      reduces_away t ns g (x ∷ []) δ s (over_one t x hx) (subst (λ v. Reduces t ns v (x ∷ δ) s) (sym (sum_one ns x)) u) in
      let h₂ : Approx t n δ ε = approx_sym t n ε δ (subst (λ l. Approx t n ε l) e h₁) in
      approx_trans t n (y ∷ []) (x ∷ δ) (x ∷ ε) (approx_mono t n k (y ∷ []) (x ∷ δ) (omega arith) h)
      (approx_cons t ns g n x δ ε hx h₂)
