-- The runs of the replaced table are those of the table with their moves replaced. Assumes nothing.
use mathlib.Core.Path.{◌≡◌, refl}
use mathlib.Core.List.{List, [], ◌∷◌, map}
use Prim.Native.Nat.{ℕ}
use Rattle.bpa.specs.Plans.{Table, Runs, empty_run, longer_run}
use Rattle.alike.specs.Alike.{Pair, replace, replaced}
use Rattle.alike.proofs.ReplacedTables.{step_replaced, step_raw}

module _ (ps : List Pair) (t : Table) where
  pub runs_replaced : {p run q : List ℕ} → Runs t p run q → Runs (replaced ps t) p (map (replace ps) run) q
  runs_replaced (empty_run p) = empty_run p
  runs_replaced (longer_run p q a run end s r) =
      longer_run p q (replace ps a) (map (replace ps) run) end (step_replaced ps t p a q s) (runs_replaced r)

  pub runs_raw : {p run q : List ℕ} → Runs (replaced ps t) p run q → (raw : List ℕ) × Runs t p raw q × (map (replace ps) raw ≡ run)
  runs_raw (empty_run p) = ([], empty_run p, refl)
  runs_raw (longer_run p q b run end s r) =
      let (a, k, e) = step_raw ps t p b q s in
      let (raw, m, f) = runs_raw r in
      (a ∷ raw, longer_run p q a raw end k m, λ i. e i ∷ f i)
