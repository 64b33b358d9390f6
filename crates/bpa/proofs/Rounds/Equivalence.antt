-- Plans that match at every number of rounds: the laws of this equivalence, and that every bisimulation is within it. Assumes nothing.
use mathlib.Core.Path.{◌≡◌}
use mathlib.Core.Bool.{true}
use mathlib.Core.List.{List, [], ◌∷◌, ◌++◌}
use Prim.Native.Nat.{ℕ, zero, suc, ◌+◌, ◌≤◌, ◌<◌}
use native.Mathlib.Omega.{arith}
use lib.ListN.{get_or}
use Rattle.bpa.specs.Plans.{Table, over}
use Rattle.bpa.specs.Norms.{sum_of, Good}
use Rattle.bpa.specs.Bisimilar.{Approx, Bisimilar, Bisimulation, AnyBisimulation}
use Rattle.bpa.proofs.Basics.Plans.{over_head, over_tail, over_cons, over_one, over_append, step_over}
use Rattle.bpa.proofs.Rounds.Approximants.{approx_refl, approx_sym, approx_trans, approx_mono, approx_append, norms_agree}
use Rattle.bpa.proofs.Rounds.Reductions.{Reduces, reduces_over}
use Rattle.bpa.proofs.Rounds.Cancellation.{cancel_left, cancel_right, split, any_reduct}

abbrev pub Equivalent : Table → (p q : List ℕ) → Type 0
Equivalent t p q = (n : ℕ) → Approx t n p q

module _ (t : Table) (ns : List ℕ) (g : Good t ns) where
  -- whatever relation holds two plans, computable or not, they match at every number of rounds
  pub any_within : (R : List ℕ → List ℕ → Type 0) → AnyBisimulation t R → (p q : List ℕ) →
      over t p ≡ true → over t q ≡ true → R p q → Equivalent t p q
  unfolding AnyBisimulation
  any_within R b p q o o' h zero = tt
  any_within R b p q o o' h (suc n) = (
    λ a p' s.
        let (q', u, k) = (b p q o o' h).0 a p' s in
        (q', u, any_within R b p' q' (step_over t ns g p p' a o s) (step_over t ns g q q' a o' u) k n),
    λ a q' s.
        let (p', u, k) = (b p q o o' h).1 a q' s in (
          p',
          u,
          approx_sym t n p' q'
              (any_within R b p' q' (step_over t ns g p p' a o u) (step_over t ns g q q' a o' s) k n),
        ),
  )

  pub bisimilar_equivalent : (p q : List ℕ) → Bisimilar t p q → Equivalent t p q
  unfolding Bisimulation AnyBisimulation
  bisimilar_equivalent p q h =
      any_within (λ p' q'. h.relation p' q' ≡ true) h.bisimulation p q h.over_left h.over_right h.related

  pub equivalent_norm : (p q : List ℕ) → over t p ≡ true → over t q ≡ true → Equivalent t p q → sum_of ns p ≡ sum_of ns q
  equivalent_norm p q o o' h = norms_agree t ns g (suc (sum_of ns p)) p q o o' (omega arith) (h (suc (sum_of ns p)))

  pub equivalent_append : (p p' q q' : List ℕ) → over t p ≡ true → over t p' ≡ true →
      Equivalent t p p' → Equivalent t q q' → Equivalent t (p ++ q) (p' ++ q')
  equivalent_append p p' q q' o o' h k n = approx_append t ns g n p p' q q' o o' (h n) (k n)

  pub equivalent_cancel_left : (r p q : List ℕ) → over t r ≡ true → over t p ≡ true → over t q ≡ true →
      Equivalent t (r ++ p) (r ++ q) → Equivalent t p q
  equivalent_cancel_left r p q oᵣ oₚ o h n =
      let m : ℕ = n + suc (sum_of ns p) in
      approx_mono t n m p q (omega arith)
      (cancel_left t ns g m (m + sum_of ns r) r p q oᵣ oₚ o (omega arith) (omega arith) (h (m + sum_of ns r)))

  pub equivalent_cancel_right : (p q r : List ℕ) → over t p ≡ true → over t q ≡ true → over t r ≡ true →
      Equivalent t (p ++ r) (q ++ r) → Equivalent t p q
  equivalent_cancel_right p q r oₚ o oᵣ h n =
      cancel_right t ns g n (n + sum_of ns r) p q r oₚ o oᵣ (omega arith) (h (n + sum_of ns r))

  equivalent_head : (x y : ℕ) (α β ε : List ℕ) → over t (x ∷ α) ≡ true → over t (y ∷ β) ≡ true →
      get_or ns x 0 ≤ get_or ns y 0 → Reduces t ns (get_or ns x 0) (y ∷ []) ε → Equivalent t (x ∷ α) (y ∷ β) →
      Equivalent t (y ∷ []) (x ∷ ε)
  equivalent_head x y α β ε oₓ o le r h n =
      let hx : x < t.jobs = over_head t x α oₓ in
      let hy : y < t.jobs = over_head t y β o in
      let i : ℕ = n + suc (get_or ns y 0) in
      let m : ℕ = i + get_or ns x 0 + sum_of ns β + suc (sum_of ns α) in
      let (δ, u, h₁, h₂) =
      split t ns g (i + get_or ns x 0) m (m + get_or ns x 0) x y α β oₓ o le (omega arith) (omega arith) (omega arith)
      (h (m + get_or ns x 0)) in
      approx_mono t n i (y ∷ []) (x ∷ ε) (omega arith)
      (any_reduct t ns g i (i + get_or ns x 0) x y δ ε hx hy
      (reduces_over t ns g (get_or ns x 0) (y ∷ []) δ (over_one t y hy) u) (omega arith) (omega arith) r h₂)

  -- plans with different heads, split at any reduct of the greater head
  pub equivalent_split : (x y : ℕ) (α β ε : List ℕ) → over t (x ∷ α) ≡ true → over t (y ∷ β) ≡ true →
      get_or ns x 0 ≤ get_or ns y 0 → Reduces t ns (get_or ns x 0) (y ∷ []) ε → Equivalent t (x ∷ α) (y ∷ β) →
      Equivalent t (y ∷ []) (x ∷ ε) × Equivalent t α (ε ++ β)
  equivalent_split x y α β ε oₓ o le r h =
      let hx : x < t.jobs = over_head t x α oₓ in
      let oy : over t (y ∷ []) ≡ true = over_one t y (over_head t y β o) in
      let oε : over t ε ≡ true = reduces_over t ns g (get_or ns x 0) (y ∷ []) ε oy r in
      let e : Equivalent t (y ∷ []) (x ∷ ε) = equivalent_head x y α β ε oₓ o le r h in (
        e,
        equivalent_cancel_left (x ∷ []) α (ε ++ β) (over_one t x hx) (over_tail t x α oₓ)
            (over_append t ε β oε (over_tail t y β o))
            (λ n. approx_trans t n (x ∷ α) (y ∷ β) (x ∷ (ε ++ β)) (h n)
            (approx_append t ns g n (y ∷ []) (x ∷ ε) β β oy (over_cons t x ε hx oε) (e n) (approx_refl t n β))),
      )
