-- Refusals 6 and 7 of a closed table are given for their conditions only; a table that neither meets is accepted. Assumes nothing.
use mathlib.Core.Path.{◌≡◌, refl, sym, ap, subst, ◌∙◌}
use mathlib.Core.Bool.{Bool, true, false, ◌||◌, cond, true≢false}
use mathlib.Core.List.{List, [], ◌∷◌}
use mathlib.Core.Logic.{◌↔◌}
use Prim.Native.Nat.{ℕ, zero, suc, ◌≤◌, ◌<◌}
use native.Mathlib.Omega.{arith}
use lib.Dec.{ltb, eqb}
use lib.ListN.{length, get_or}
use borrow.Author.Tests.{eqb-true, eqb-false, ltb-true, ltb-false}
use Rattle.bpa.specs.Plans.{Table, over, HasRule}
use Rattle.bpa.specs.Norms.{norms, Fewest, NeverEnds}
use Rattle.bpa.proofs.Basics.Cases.{by_test, or_none}
use Rattle.bpa.proofs.Norm.NormStable.{norms_length}
use Rattle.bpa.proofs.Norm.NormExact.{job_norm, job_without}
use Rattle.bpa.proofs.Norm.GoodTable.{finite_good}
use Rattle.refusal.specs.Refusals.{any_zero, any_above, norms_refusal, table_refusal, Accepted}

-- what the two tests say of each number
pub none_zero : (ns : List ℕ) → any_zero ns ≡ false → (j : ℕ) → j < length ns → 0 < get_or ns j 0
unfolding any_zero
none_zero [] h j l = absurd (omega arith)
none_zero (v ∷ vs) h zero l = let d = eqb-false v 0 (or_none (eqb v 0) (any_zero vs) h).0 in omega arith
none_zero (v ∷ vs) h (suc j) l = none_zero vs (or_none (eqb v 0) (any_zero vs) h).1 j (omega arith)

pub none_above : (m : ℕ) (ns : List ℕ) → any_above m ns ≡ false → (j : ℕ) → get_or ns j 0 ≤ m
unfolding any_above
none_above m [] h j = omega arith
none_above m (v ∷ vs) h zero = ltb-false m v (or_none (ltb m v) (any_above m vs) h).0
none_above m (v ∷ vs) h (suc j) = none_above m vs (or_none (ltb m v) (any_above m vs) h).1 j

found_zero : (ns : List ℕ) → any_zero ns ≡ true → (j : ℕ) × (j < length ns) × (get_or ns j 0 ≡ 0)
unfolding any_zero
found_zero [] h = absurd (true≢false (sym h))
found_zero (v ∷ vs) h =
    let rest = found_zero vs in
    by_test (eqb v 0) (λ e. (0, omega arith, eqb-true v 0 e))
    (λ e. let (j, l, z) = rest (subst (λ (b : Bool). (b || any_zero vs) ≡ true) e h) in (suc j, omega arith, z))

found_above : (m : ℕ) (ns : List ℕ) → any_above m ns ≡ true → (j : ℕ) × (j < length ns) × (m < get_or ns j 0)
unfolding any_above
found_above m [] h = absurd (true≢false (sym h))
found_above m (v ∷ vs) h =
    let rest = found_above m vs in
    by_test (ltb m v) (λ e. (0, omega arith, ltb-true m v e))
    (λ e. let (j, l, z) = rest (subst (λ (b : Bool). (b || any_above m vs) ≡ true) e h) in (suc j, omega arith, z))

-- which tests led to a refusal
refused : (z a : Bool) (r : ℕ) → cond z 6 (cond a 7 0) ≡ r →
    (r ≡ 6 → z ≡ true) × (r ≡ 7 → (z ≡ false) × (a ≡ true)) × (r ≡ 0 → (z ≡ false) × (a ≡ false))
refused true a r e = (λ h. refl, λ h. absurd (omega arith), λ h. absurd (omega arith))
refused false true r e = (λ h. absurd (omega arith), λ h. (refl, refl), λ h. absurd (omega arith))
refused false false r e = (λ h. absurd (omega arith), λ h. absurd (omega arith), λ h. (refl, refl))

module _ (t : Table) where
  pub tests : (table_refusal t ≡ 6 → any_zero (norms t) ≡ true)
      × (table_refusal t ≡ 7 → (any_zero (norms t) ≡ false) × (any_above 512 (norms t) ≡ true))
      × (table_refusal t ≡ 0 → (any_zero (norms t) ≡ false) × (any_above 512 (norms t) ≡ false))
  unfolding table_refusal norms_refusal
  tests = refused (any_zero (norms t)) (any_above 512 (norms t)) (table_refusal t) refl

  passed_finite : table_refusal t ≡ 0 → (j : ℕ) → j < t.jobs → 0 < get_or (norms t) j 0
  passed_finite h j l = none_zero (norms t) (tests.2 h).0 j (omega (arith, norms_length t))

  passed_small : table_refusal t ≡ 0 → (j : ℕ) → get_or (norms t) j 0 ≤ 512
  passed_small h = none_above 512 (norms t) (tests.2 h).1

  module _ (closed : (j a : ℕ) (w : List ℕ) → HasRule t j a w → over t w ≡ true) where
    -- a closed table that neither meets is accepted
    pub accepted_table : table_refusal t ≡ 0 → Accepted t
    accepted_table h = record { good = finite_good t closed (passed_finite h); small = passed_small h }

    pub six_exact : (table_refusal t ≡ 6) ↔ ((j : ℕ) × (j < t.jobs) × NeverEnds t (j ∷ []))
    unfolding table_refusal norms_refusal
    six_exact = (
      λ h. let (j, l, z) = found_zero (norms t) (tests.0 h) in
          let k : j < t.jobs = omega (arith, norms_length t) in (j, k, (job_without t closed j k).0 z),
      λ x. let z = (job_without t closed x.0 x.1).1 x.2 in
          by_test (any_zero (norms t)) (λ e. ap (λ (b : Bool). cond b 6 (cond (any_above 512 (norms t)) 7 0)) e)
          (λ e. absurd (omega (arith, none_zero (norms t) e x.0 (omega (arith, norms_length t, x.1))))),
    )

    -- a job with a run to its end has its norm as the fewest moves
    pub finite : (j v : ℕ) → j < t.jobs → Fewest t (j ∷ []) v → (0 < get_or (norms t) j 0) × (v ≤ get_or (norms t) j 0)
    finite j v l f = go (get_or (norms t) j 0) refl
      where
        go : (m : ℕ) → get_or (norms t) j 0 ≡ m → (0 < get_or (norms t) j 0) × (v ≤ get_or (norms t) j 0)
        go zero e = absurd ((job_without t closed j l).0 e f.0.0 f.0.1)
        go (suc m) e =
            let k : 0 < get_or (norms t) j 0 = omega arith in
            let (run, r, s) = (job_norm t closed j l k).0 in (k, omega (arith, f.1 run r))

    pub seven_exact : (table_refusal t ≡ 7) ↔ (((j : ℕ) → j < t.jobs → (v : ℕ) × Fewest t (j ∷ []) v)
        × ((j : ℕ) × (j < t.jobs) × (v : ℕ) × Fewest t (j ∷ []) v × (512 < v)))
    unfolding table_refusal norms_refusal
    seven_exact = (
      λ h. let known : (j : ℕ) → j < t.jobs → 0 < get_or (norms t) j 0 =
          λ j l. none_zero (norms t) (tests.1 h).0 j (omega (arith, norms_length t)) in
          let (j, l, z) = found_above 512 (norms t) (tests.1 h).1 in
          let k : j < t.jobs = omega (arith, norms_length t) in (
            λ i m. (get_or (norms t) i 0, job_norm t closed i m (known i m)),
            (j, k, get_or (norms t) j 0, job_norm t closed j k (known j k), z),
          ),
      λ x. let (j, l, v, f, b) = x.1 in
          by_test (any_zero (norms t))
          (λ e. let (i, m, z) = found_zero (norms t) e in
          let k : i < t.jobs = omega (arith, norms_length t) in
          let (u, w) = x.0 i k in absurd (omega (arith, (finite i u k w).0)))
          (λ e. by_test (any_above 512 (norms t))
          (λ d. ap (λ (c : Bool). cond c 6 (cond (any_above 512 (norms t)) 7 0)) e ∙ ap (λ (c : Bool). cond c 7 0) d)
          (λ d. absurd (omega (arith, none_above 512 (norms t) d j, (finite j v l f).1)))),
    )
