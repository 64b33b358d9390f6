-- Runs without their first move, and how large their moves are. Assumes nothing.
use mathlib.Core.Path.{◌≡◌}
use mathlib.Core.List.Memᴰ
use mathlib.Core.List.{List, [], ◌∷◌, Memᴰ}
use mathlib.Core.Logic.{⊎_elim}
use Prim.Native.Nat.{ℕ, ◌<◌}
use native.Mathlib.Omega.{arith}
use Rattle.bpa.specs.Plans.{Table, HasRule, Step, Runs, empty_run, longer_run}

module _ (t : Table) where
  -- its first move, and a run of what that leaves
  pub first_move : {p more end : List ℕ} {a : ℕ} → Runs t p (a ∷ more) end → (q : List ℕ) × Step t p a q × Runs t q more end
  first_move (longer_run p q a more end s r) = (q, s, r)

  -- if the moves of all rules are below a bound, so are those of a run
  module _ (bound : ℕ) (small : (j a : ℕ) (w : List ℕ) → HasRule t j a w → a < bound) where
    pub step_moves : (p q : List ℕ) (a : ℕ) → Step t p a q → a < bound
    step_moves [] q a s = absurd s
    step_moves (j ∷ js) q a (w, r, e) = small j a w r

    pub run_moves : {p run end : List ℕ} → Runs t p run end → (v : ℕ) → Memᴰ v run → v < bound
    run_moves (empty_run p) v m = absurd (Memᴰ.not-nil m)
    run_moves (longer_run p q a more end s r) v m =
        ⊎_elim (λ (e : v ≡ a). omega (arith, step_moves p q a s)) (λ k. run_moves r v k) (Memᴰ.cases_cons m)
