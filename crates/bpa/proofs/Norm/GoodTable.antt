-- A closed table in which no norm is missing is good. Assumes nothing.
use mathlib.Core.Path.{◌≡◌, refl}
use mathlib.Core.Bool.{true}
use mathlib.Core.List.{List, [], ◌∷◌}
use Prim.Native.Nat.{ℕ, suc, ◌≤◌, ◌<◌}
use native.Mathlib.Decide.{dec_lt}
use native.Mathlib.Omega.{arith}
use lib.ListN.{get_or, get_or-eq_default}
use Rattle.bpa.specs.Plans.{Table, over, HasRule}
use Rattle.bpa.specs.Norms.{sum_of, all_known, norms, Good}
use Rattle.bpa.proofs.Basics.Plans.{over_head, over_tail}
use Rattle.bpa.proofs.Norm.KnownPlans.{known_cons}
use Rattle.bpa.proofs.Norm.NormStable.{norms_length}
use Rattle.bpa.proofs.Norm.NormExact.{job_by_rule, job_least}

plan_known : (t : Table) → ((j : ℕ) → j < t.jobs → 0 < get_or (norms t) j 0) →
    (p : List ℕ) → over t p ≡ true → all_known (norms t) p ≡ true
unfolding all_known
plan_known t f [] o = refl
plan_known t f (j ∷ js) o = known_cons (norms t) j js (f j (over_head t j js o)) (plan_known t f js (over_tail t j js o))

module _ (t : Table) (closed : (j a : ℕ) (w : List ℕ) → HasRule t j a w → over t w ≡ true)
    (finite : (j : ℕ) → j < t.jobs → 0 < get_or (norms t) j 0) where
  slow : (j a : ℕ) (w : List ℕ) → HasRule t j a w → get_or (norms t) j 0 ≤ suc (sum_of (norms t) w)
  slow j a w r = go (dec_lt j t.jobs)
    where
      go : Dec (j < t.jobs) → get_or (norms t) j 0 ≤ suc (sum_of (norms t) w)
      go (yes h) = (job_least t j a w h r (plan_known t finite w (closed j a w r))).1
      go (no h) = omega (arith, get_or-eq_default (norms t) 0 {n = j} (omega (arith, norms_length t)))

  falls : (j : ℕ) → j < t.jobs → (a : ℕ) × (w : List ℕ) × HasRule t j a w × (get_or (norms t) j 0 ≡ suc (sum_of (norms t) w))
  falls j h = let b = job_by_rule t j (finite j h) in (b.move, b.after, b.rule, b.norm)

  pub finite_good : Good t (norms t)
  finite_good = record { closed = closed; slow = slow; falls = falls }
