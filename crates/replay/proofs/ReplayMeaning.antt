-- THE MEANING of each answer of a replay: 1 exactly for whole, 2 plus a place exactly for that place, in every table; 0 exactly for part where
-- every plan can finish. Assumes nothing.
use mathlib.Core.Path.{◌≡◌, refl, sym, ◌∙◌, subst}
use mathlib.Core.Bool.{true}
use mathlib.Core.List.{List}
use mathlib.Core.Logic.{◌↔◌, inl, inr, ⊎_elim, ⊎_map}
use Prim.Native.Nat.{ℕ, suc, ◌+◌, ◌<◌}
use native.Mathlib.Omega.{arith}
use lib.Dec.{ltb}
use lib.ListN.{length}
use lib.Seq.{take_all}
use borrow.Author.Tests.{ltb-true, ltb-false}
use Rattle.bpa.specs.Plans.{Table, over, Runs, empty_run, longer_run}
use Rattle.bpa.specs.Norms.{Good}
use Rattle.bpa.proofs.Basics.Cases.{by_test}
use Rattle.bpa.proofs.Basics.Plans.{closed_step}
use Rattle.bpa.proofs.Norm.NormFewest.{sum_fewest}
use Rattle.first_run.specs.FirstRun.{SameRules}
use Rattle.first_run.proofs.FirstRuns.{same_runs}
use Rattle.replay.specs.Replay.{Begins, Whole, Completes, Part, LeavesAt, Says, replay}
use Rattle.replay.proofs.RunSplits.{run_then, run_front}
use Rattle.replay.proofs.Outcomes.{says_one, ToldWhole, ToldPart, ToldPlace}
use Rattle.replay.proofs.ReplayExact.{replay_says}

module _ (t : Table) (p log : List ℕ) where
  -- a number that is the answer by its meaning is the answer
  pub said : (r : ℕ) → Says t p log r → r ≡ replay t p log
  said r s = says_one t p log r (replay t p log) s (replay_says t p log)

  pub whole_exactly : (replay t p log ≡ 1) ↔ Whole t p log
  whole_exactly = (
    (λ e.
        ⊎_elim (λ (w : ToldWhole t p log (replay t p log)). w.1)
        (⊎_elim (λ (w : ToldPart t p log (replay t p log)). absurd (omega (arith, e, w.0)))
        (λ (w : ToldPlace t p log (replay t p log)). absurd (omega (arith, e, w.1))))
        (replay_says t p log)),
    (λ w. sym (said 1 (inl (refl, w)))),
  )

  pub place_exactly : (k : ℕ) → (replay t p log ≡ 2 + k) ↔ LeavesAt t p log k
  place_exactly k = (
    (λ e.
        ⊎_elim (λ (w : ToldWhole t p log (replay t p log)). absurd (omega (arith, e, w.0)))
        (⊎_elim (λ (w : ToldPart t p log (replay t p log)). absurd (omega (arith, e, w.0)))
        (λ (w : ToldPlace t p log (replay t p log)).
        let same : w.0 ≡ k = omega (arith, e, w.1) in subst (LeavesAt t p log) same w.2))
        (replay_says t p log)),
    (λ w. sym (said (2 + k) (inr (inr (k, refl, w))))),
  )

  -- not whole, and some run begins with it
  begun_exactly : (replay t p log ≡ 0) ↔ ((Whole t p log → ⊥) × Begins t p log)
  begun_exactly = (
    (λ e.
        ⊎_elim (λ (w : ToldWhole t p log (replay t p log)). absurd (omega (arith, e, w.0)))
        (⊎_elim (λ (w : ToldPart t p log (replay t p log)). w.1)
        (λ (w : ToldPlace t p log (replay t p log)). absurd (omega (arith, e, w.1))))
        (replay_says t p log)),
    (λ w. sym (said 0 (inr (inl (refl, w))))),
  )

-- WHERE EVERY PLAN CAN FINISH, what some run begins with, some complete run begins with
module _ (t : Table) (ns : List ℕ) (g : Good t ns) where
  pub run_over : {p run end : List ℕ} → Runs t p run end → over t p ≡ true → over t end ≡ true
  run_over (empty_run p) o = o
  run_over (longer_run p q a run end s r) o = run_over r (closed_step t g.closed p q a o s)

  module _ (p log : List ℕ) (o : over t p ≡ true) where
    pub begins_completes : Begins t p log ↔ Completes t p log
    begins_completes = (
      (λ b.
          let (end, r) = b in
          let (more, s, e) = (sum_fewest t ns g end (run_over r o)).0 in
          (more, run_then t r s)),
      (λ c. let (more, r) = c in let (q, s, k) = run_front t log more r in (q, s)),
    )

    pub part_exactly : (replay t p log ≡ 0) ↔ Part t p log
    part_exactly = (
      (λ e. let (n, b) = (begun_exactly t p log).0 e in (n, begins_completes.0 b)),
      (λ w. (begun_exactly t p log).1 (w.0, begins_completes.1 w.1)),
    )

-- the place is one of the log
pub leaves_inside : (t : Table) (p log : List ℕ) (k : ℕ) → LeavesAt t p log k → k < length log
leaves_inside t p log k (b, n) =
    by_test (ltb k (length log)) (λ e. ltb-true k (length log) e)
    (λ e.
    let h = ltb-false k (length log) e in
    absurd (n (subst (Begins t p) (take_all k log h ∙ sym (take_all (suc k) log (omega (arith, h)))) b)))

-- THE ORDER OF THE RULES does not matter, nor how often each is written
module _ (t u : Table) (s : SameRules t u) where
  begins_same : {p log : List ℕ} → Begins t p log → Begins u p log
  begins_same (end, r) = (end, same_runs t u s r)

pub replay_same : (t u : Table) → SameRules t u → (p log : List ℕ) → replay t p log ≡ replay u p log
replay_same t u s p log = said u p log (replay t p log) (moved (replay_says t p log))
  where
    back : SameRules u t
    back j a w = ((s j a w).1, (s j a w).0)

    moved : {r : ℕ} → Says t p log r → Says u p log r
    moved =
        ⊎_map (λ w. (w.0, same_runs t u s w.1))
        (⊎_map
        (λ w. (w.0, ((λ x. w.1.0 (same_runs u t back x)), begins_same t u s w.1.1)))
        (λ w. let (k, e, (b, n)) = w in (k, e, (begins_same t u s b, (λ x. n (begins_same u t back x))))))
