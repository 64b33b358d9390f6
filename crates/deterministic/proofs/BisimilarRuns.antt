-- Plans that some bisimulation relates have the same complete runs, in every table whose jobs have norms (002, proposition 3.1). Assumes nothing.
use mathlib.Core.Path.{◌≡◌, refl, subst}
use mathlib.Core.Bool.{true}
use mathlib.Core.List.{List, [], ◌∷◌}
use Prim.Native.Nat.{ℕ}
use Rattle.bpa.specs.Plans.{Table, over, Runs, empty_run, longer_run}
use Rattle.bpa.specs.Norms.{Good}
use Rattle.bpa.specs.Bisimilar.{Bisimulation, Bisimilar, AnyBisimulation}
use Rattle.bpa.proofs.Basics.Plans.{step_over, step_falls}
use Rattle.first_run.proofs.RunParts.{first_move}
use Rattle.replay.proofs.RunSplits.{no_move}
use Rattle.deterministic.specs.CompleteRuns.{SameRuns}

module _ (t : Table) (ns : List ℕ) (g : Good t ns) where
  -- the empty plan is related to no other
  both_end : (R : List ℕ → List ℕ → Type 0) → AnyBisimulation t R → (q : List ℕ) → over t [] ≡ true → over t q ≡ true → R [] q → [] ≡ q
  unfolding AnyBisimulation
  both_end R b [] o oq h = refl
  both_end R b (j ∷ js) o oq h =
      let (a, q, s, e) = step_falls t ns g j js oq in
      absurd ((b [] (j ∷ js) o oq h).1 a q s).1

  run_followed : (R : List ℕ → List ℕ → Type 0) → AnyBisimulation t R → (run p q : List ℕ) → over t p ≡ true → over t q ≡ true → R p q →
      Runs t p run [] → Runs t q run []
  unfolding AnyBisimulation
  run_followed R b [] p q o oq h r =
      let e = no_move t r in
      let f = both_end R b q (subst (λ (l : List ℕ). over t l ≡ true) e o) oq (subst (λ (l : List ℕ). R l q) e h) in
      subst (λ (l : List ℕ). Runs t l [] []) f (empty_run [])
  run_followed R b (a ∷ run) p q o oq h r =
      let (p', s, k) = first_move t r in
      let (q', m, i) = (b p q o oq h).0 a p' s in
      longer_run q q' a run [] m
      (run_followed R b run p' q' (step_over t ns g p p' a o s) (step_over t ns g q q' a oq m) i k)

  -- ONE HALF, of every such table
  pub bisimilar_runs : (p q : List ℕ) → Bisimilar t p q → SameRuns t p q
  unfolding Bisimulation AnyBisimulation
  bisimilar_runs p q h run =
      let R : List ℕ → List ℕ → Type 0 = λ x y. h.relation x y ≡ true in
      let B : List ℕ → List ℕ → Type 0 = λ y x. h.relation x y ≡ true in (
        run_followed R h.bisimulation run p q h.over_left h.over_right h.related,
        run_followed B (λ y x o oq e. let (s, k) = h.bisimulation x y oq o e in (k, s)) run q p h.over_right h.over_left h.related,
      )
