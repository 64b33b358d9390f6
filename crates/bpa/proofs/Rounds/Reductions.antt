-- Reductions: steps that each lower the norm by one, and how approximants match them. Assumes nothing.
use mathlib.Core.Path.{◌≡◌, refl, sym, ◌∙◌, ap, subst}
use mathlib.Core.Bool.{true}
use mathlib.Core.List.{List, [], ◌∷◌, ◌++◌}
use Prim.Native.Nat.{ℕ, zero, suc, ◌+◌, ◌≤◌, ◌<◌}
use native.Mathlib.Omega.{arith}
use Rattle.bpa.specs.Plans.{Table, over, Step}
use Rattle.bpa.specs.Norms.{sum_of, Good}
use Rattle.bpa.specs.Bisimilar.{Approx}
use Rattle.bpa.proofs.Basics.Plans.{sum_append, step_append, step_front, step_over, step_falls, norm_zero}
use Rattle.bpa.proofs.Rounds.Approximants.{approx_mono, norms_agree}

-- q is reached from p by so many steps, each of which lowers the norm by one
abbrev pub Reduces : Table → (norms : List ℕ) → (steps : ℕ) → (p q : List ℕ) → Type 0
Reduces t ns zero p q = p ≡ q
Reduces t ns (suc v) p q =
    (a : ℕ) × (m : List ℕ) × Step t p a m × (sum_of ns p ≡ suc (sum_of ns m)) × Reduces t ns v m q

module _ (t : Table) (ns : List ℕ) (g : Good t ns) where
  pub reduces_over : (v : ℕ) (p q : List ℕ) → over t p ≡ true → Reduces t ns v p q → over t q ≡ true
  reduces_over zero p q o r = subst (λ l. over t l ≡ true) r o
  reduces_over (suc v) p q o (a, m, s, e, r) = reduces_over v m q (step_over t ns g p m a o s) r

  pub reduces_norm : (v : ℕ) (p q : List ℕ) → Reduces t ns v p q → sum_of ns p ≡ v + sum_of ns q
  reduces_norm zero p q r = omega (arith, ap (sum_of ns) r)
  reduces_norm (suc v) p q (a, m, s, e, r) = omega (arith, reduces_norm v m q r)

  -- a reduction of one plan is matched by a reduction of the other
  pub reduces_matched : (n v k : ℕ) (p q p' : List ℕ) → over t p ≡ true → over t q ≡ true →
      n + v ≤ k → sum_of ns p' < n → Approx t k p q → Reduces t ns v p p' →
      (q' : List ℕ) × Reduces t ns v q q' × Approx t n p' q'
  reduces_matched n zero k p q p' o o' le lt h r =
      (q, refl, subst (λ l. Approx t n l q) r (approx_mono t n k p q (omega arith) h))
  reduces_matched n (suc v) zero p q p' o o' le lt h r = absurd (omega arith)
  reduces_matched n (suc v) (suc k) p q p' o o' le lt h (a, m, s, e, r) =
      let (m', s', h') = h.0 a m s in
      let oₘ : over t m ≡ true = step_over t ns g p m a o s in
      let oₘ' : over t m' ≡ true = step_over t ns g q m' a o' s' in
      let f : sum_of ns m ≡ v + sum_of ns p' = reduces_norm v m p' r in
      let i : sum_of ns p ≡ sum_of ns q = norms_agree t ns g (suc k) p q o o' (omega arith) h in
      let j : sum_of ns m ≡ sum_of ns m' = norms_agree t ns g k m m' oₘ oₘ' (omega arith) h' in
      let (q', r', k') = reduces_matched n v k m m' p' oₘ oₘ' (omega arith) lt h' r in
      (q', (a, m', s', omega arith, r'), k')

  -- a reduction by no more than the norm of the front leaves the back alone
  pub reduces_front : (v : ℕ) (r p s : List ℕ) → over t r ≡ true → v ≤ sum_of ns r → Reduces t ns v (r ++ p) s →
      (r' : List ℕ) × Reduces t ns v r r' × (s ≡ r' ++ p)
  unfolding sum_of
  reduces_front zero r p s o le h = (r, refl, sym h)
  reduces_front (suc v) [] p s o le h = absurd (omega arith)
  reduces_front (suc v) (j ∷ js) p s o le (a, m, u, e, h) =
      let (q, u', f) = step_front t j js p m a u in
      let d : sum_of ns (j ∷ js) ≡ suc (sum_of ns q) =
      omega (arith, sum_append ns (j ∷ js) p, ap (sum_of ns) f, sum_append ns q p) in
      let (r', k, e') =
      reduces_front v q p s (step_over t ns g (j ∷ js) q a o u') (omega arith)
      (subst (λ l. Reduces t ns v l s) f h) in
      (r', (a, q, u', d, k), e')

  pub reduces_append : (v : ℕ) (r r' p : List ℕ) → Reduces t ns v r r' → Reduces t ns v (r ++ p) (r' ++ p)
  reduces_append zero r r' p h = ap (λ l. l ++ p) h
  reduces_append (suc v) r r' p (a, m, s, e, h) = (
    a,
    m ++ p,
    step_append t r m p a s,
    omega (arith, sum_append ns r p, sum_append ns m p),
    reduces_append v m r' p h,
  )

  -- by the whole norm of the front: just the back is left, and such a reduction exists
  pub reduces_away : (r p s : List ℕ) → over t r ≡ true → Reduces t ns (sum_of ns r) (r ++ p) s → s ≡ p
  reduces_away r p s o h =
      let (r', k, e) = reduces_front (sum_of ns r) r p s o (omega arith) h in
      let z : r' ≡ [] =
      norm_zero t ns g r' (reduces_over (sum_of ns r) r r' o k)
      (omega (arith, reduces_norm (sum_of ns r) r r' k)) in
      e ∙ ap (λ l. l ++ p) z

  reduces_empty : (v : ℕ) (r : List ℕ) → over t r ≡ true → sum_of ns r ≡ v → Reduces t ns v r []
  unfolding sum_of
  reduces_empty zero r o e = norm_zero t ns g r o e
  reduces_empty (suc v) [] o e = absurd (omega arith)
  reduces_empty (suc v) (j ∷ js) o e =
      let (a, m, s, f) = step_falls t ns g j js o in
      (a, m, s, f, reduces_empty v m (step_over t ns g (j ∷ js) m a o s) (omega arith))

  pub reduces_exists : (r p : List ℕ) → over t r ≡ true → Reduces t ns (sum_of ns r) (r ++ p) p
  reduces_exists r p o = reduces_append (sum_of ns r) r [] p (reduces_empty (sum_of ns r) r o refl)
