-- In a good table the norm of a plan is the fewest moves to the empty plan, and so is its sum by any numbers by which the table is good.
-- Assumes nothing.
use mathlib.Core.Path.{◌≡◌, refl}
use mathlib.Core.Bool.{true}
use mathlib.Core.List.{List, ◌∷◌}
use Prim.Native.Nat.{ℕ}
use native.Mathlib.Omega.{arith}
use Rattle.bpa.specs.Plans.{Table, over}
use Rattle.bpa.specs.Norms.{sum_of, norms, norm, Fewest, Good}
use Rattle.bpa.proofs.Basics.Plans.{step_over, step_slow, step_falls}
use Rattle.bpa.proofs.Norm.RunLengths.{run_down, run_back}

module _ (t : Table) (ns : List ℕ) (g : Good t ns) where
  pub sum_fewest : (p : List ℕ) → over t p ≡ true → Fewest t p (sum_of ns p)
  unfolding sum_of
  sum_fewest p o = (
    run_down t ns (λ q. over t q ≡ true)
        (λ j js k. let (a, q, s, f) = step_falls t ns g j js k in (a, q, s, step_over t ns g (j ∷ js) q a k s, f)) (sum_of ns p) p o refl,
    λ run r. omega (arith, (run_back t ns (λ q. Unit {0}) g.closed (λ p q a k s u. (tt, omega (arith, step_slow t ns g p q a s))) r o tt).1),
  )

pub norm_fewest : (t : Table) → Good t (norms t) → (p : List ℕ) → over t p ≡ true → Fewest t p (norm t p)
unfolding norm
norm_fewest t g = sum_fewest t (norms t) g
