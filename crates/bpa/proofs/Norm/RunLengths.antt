-- How long runs to the empty plan are, by a number for each job: steps that lower the sum by one make a run of that length, and if no step
-- lowers it by more, no run is shorter. Assumes nothing.
use mathlib.Core.Path.{◌≡◌, refl, ap}
use mathlib.Core.Bool.{true}
use mathlib.Core.List.{List, [], ◌∷◌}
use Prim.Native.Nat.{ℕ, zero, suc, ◌+◌, ◌≤◌}
use native.Mathlib.Omega.{arith}
use lib.ListN.{length}
use Rattle.bpa.specs.Plans.{Table, over, HasRule, Step, Runs, empty_run, longer_run}
use Rattle.bpa.specs.Norms.{sum_of}
use Rattle.bpa.proofs.Basics.Plans.{closed_step}

module _ (t : Table) (ns : List ℕ) (P : List ℕ → Type 0) where
  -- plans of which each has a step to another of them
  pub run_down : ((j : ℕ) (js : List ℕ) → P (j ∷ js) →
      (a : ℕ) × (q : List ℕ) × Step t (j ∷ js) a q × P q × (sum_of ns (j ∷ js) ≡ suc (sum_of ns q))) →
      (n : ℕ) (p : List ℕ) → P p → n ≡ sum_of ns p → (run : List ℕ) × Runs t p run [] × (length run ≡ n)
  unfolding sum_of
  run_down down zero [] k e = ([], empty_run [], refl)
  run_down down zero (j ∷ js) k e = absurd (omega (arith, (down j js k).4))
  run_down down (suc n) [] k e = absurd (omega arith)
  run_down down (suc n) (j ∷ js) k e =
      let (a, q, s, l, f) = down j js k in
      let r = run_down down n q l (omega (arith, f)) in
      (a ∷ r.0, longer_run (j ∷ js) q a r.0 [] s r.1, ap suc r.2)

  -- plans that lead to one of them are of them
  pub run_back : ((j a : ℕ) (w : List ℕ) → HasRule t j a w → over t w ≡ true) →
      ((p q : List ℕ) (a : ℕ) → over t p ≡ true → Step t p a q → P q → P p × (sum_of ns p ≤ suc (sum_of ns q))) →
      {p run end : List ℕ} → Runs t p run end → over t p ≡ true → P end → P p × (sum_of ns p ≤ length run + sum_of ns end)
  run_back closed back (empty_run p) o k = (k, omega arith)
  run_back closed back (longer_run p q a more end s r) o k =
      let (b, c) = run_back closed back r (closed_step t closed p q a o s) k in
      let (d, f) = back p q a o s b in
      (d, omega (arith, c, f))
