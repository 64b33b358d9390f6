-- Complete runs of the replaced table are those of the table, their moves replaced: so plans have the same ones there exactly if each of one plan
-- is answered by one of the other. Assumes nothing.
use mathlib.Core.Path.{sym, ◌∙◌, subst}
use mathlib.Core.List.{List, []}
use mathlib.Core.Logic.{◌↔◌, inl, inr, ⊎_elim}
use Prim.Native.Nat.{ℕ}
use Rattle.bpa.specs.Plans.{Table, Runs}
use Rattle.alike.specs.Alike.{Pair, replaced}
use Rattle.alike.proofs.ReplacedRuns.{runs_replaced, runs_raw}
use Rattle.deterministic.specs.CompleteRuns.{SameRuns, RunsAnswered, SameRunsAlike, OnlyLeft, TellingRun, OnlyLeftAlike, TellingRunAlike}

module _ (ps : List Pair) (t : Table) where
  abbrev u : Table
  u = replaced ps t

  answered : (p q : List ℕ) → ((run : List ℕ) → Runs u p run [] → Runs u q run []) ↔ RunsAnswered ps t p q
  answered p q = (
    (λ f run r. let (raw, k, e) = runs_raw ps t (f _ (runs_replaced ps t r)) in (raw, k, sym e)),
    (λ f run r.
        let (raw, k, e) = runs_raw ps t r in
        let (other, m, d) = f raw k in
        subst (λ (l : List ℕ). Runs u q l []) (sym d ∙ e) (runs_replaced ps t m)),
  )

  pub same_runs_alike : (p q : List ℕ) → SameRuns u p q ↔ SameRunsAlike ps t p q
  same_runs_alike p q = (
    (λ s. ((answered p q).0 (λ run. (s run).0), (answered q p).0 (λ run. (s run).1))),
    (λ w run. ((answered p q).1 w.0 run, (answered q p).1 w.1 run)),
  )

  only_alike : (p q run : List ℕ) → OnlyLeft u p q run → (raw : List ℕ) × OnlyLeftAlike ps t p q raw
  only_alike p q run (r, n) =
      let (raw, k, e) = runs_raw ps t r in
      (raw, (k, λ other m d. n (subst (λ (l : List ℕ). Runs u q l []) (sym d ∙ e) (runs_replaced ps t m))))

  pub telling_run_alike : (p q : List ℕ) → TellingRun u p q → TellingRunAlike ps t p q
  telling_run_alike p q (run, w) =
      ⊎_elim (λ (x : OnlyLeft u p q run). let (raw, h) = only_alike p q run x in (raw, inl h))
      (λ (x : OnlyLeft u q p run). let (raw, h) = only_alike q p run x in (raw, inr h)) w
