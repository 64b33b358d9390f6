-- The promises about tables without a choice of outcome, each with its proved term. Assumes nothing.
use mathlib.Core.Path.{◌≡◌, refl, sym, subst}
use mathlib.Core.Bool.{true}
use mathlib.Core.List.{List, []}
use mathlib.Core.Logic.{◌↔◌}
use Prim.Native.Nat.{ℕ}
use lib.IntN.{pos}
use Rattle.bpa.specs.Plans.{over}
use Rattle.bpa.specs.Norms.{norms}
use Rattle.bpa.specs.Method.{same}
use Rattle.bpa.proofs.Basics.Cases.{same_test}
use Rattle.answer.specs.Answer.{one_if, Gives}
use Rattle.answer.proofs.Results.{result_is}
use Rattle.refusal.specs.Refusals.{Accepted, AcceptedPlan}
use Rattle.image.specs.Image.{image_refusal, table_in}
use Rattle.alike.specs.Alike.{replaced}
use Rattle.alike_list.specs.AlikeLists.{alike_pairs}
use Rattle.alike_list.specs.AlikeTables.{alike_table, listed_refusal}
use Rattle.replacing.proofs.NoList.{no_refusal, no_replacement}
use Rattle.sameness.specs.SamenessCalls.{ComparedAlike}
use Rattle.deterministic.specs.Deterministic.{Deterministic, no_choice}
use Rattle.deterministic.specs.CompleteRuns.{SameRuns}
use Rattle.deterministic.proofs.TestExact.{no_choice_exactly}
use Rattle.deterministic.proofs.SingleSteps as steps
use Rattle.deterministic.proofs.BisimilarRuns.{bisimilar_runs}
use Rattle.deterministic.proofs.RunsTell as runs
use Rattle.deterministic.proofs.AlikeRuns.{same_runs_alike, telling_run_alike}
use Rattle.outcomes.specs.OutcomeCalls.{Determined}
use Rattle.promises.specs.AlikeLists as alikelists
use Rattle.promises.specs.Outcomes as promised
use Rattle.promises.proofs.AlikeLists.{accepted, source, alike_compare_tells}
use Rattle.promises.proofs.SourceCalls.{told_exactly, answer_given}

-- THE PROPERTY
pub choice_exactly : promised.ChoiceExactly
unfolding promised.ChoiceExactly
choice_exactly = no_choice_exactly

pub alike_choice_exactly : promised.AlikeChoiceExactly
unfolding promised.AlikeChoiceExactly
alike_choice_exactly ps t =
    let test = no_choice_exactly (replaced ps t) in
    let alike = steps.deterministic_alike ps t in
    ((λ e. alike.0 (test.0 e)), (λ d. test.1 (alike.1 d)))

pub steps_single : promised.StepsSingle
unfolding promised.StepsSingle
steps_single = steps.single_steps

pub choice_reordered : promised.ChoiceReordered
unfolding promised.ChoiceReordered
choice_reordered t u s =
    same_test (no_choice t) (no_choice u)
    (λ e. (no_choice_exactly u).1 (λ j a v w m k. (no_choice_exactly t).0 e j a v w ((s j a v).1 m) ((s j a w).1 k)))
    (λ e. (no_choice_exactly t).1 (λ j a v w m k. (no_choice_exactly u).0 e j a v w ((s j a v).0 m) ((s j a w).0 k)))

pub choice_stays : promised.ChoiceStays
unfolding promised.ChoiceStays promised.AlikeChoiceExactly
choice_stays ps t e = (no_choice_exactly t).1 (λ j a v w m k. (alike_choice_exactly ps t).0 e j a a v w m k refl)

-- COMPLETE RUNS
pub runs_stay : promised.RunsStay
unfolding promised.RunsStay
runs_stay t p q k b = bisimilar_runs t (norms t) k.good p q b

pub same_by_runs : promised.SameByRuns
unfolding promised.SameByRuns
same_by_runs t p q k d o oq = runs.same_by_runs t k.good d p q o oq

pub run_tells : promised.RunTells
unfolding promised.RunTells
run_tells t p q k d o oq e = runs.run_tells t k.good d p q o oq e

-- UNDER A LIST
pub alike_runs_stay : promised.AlikeRunsStay
unfolding promised.AlikeRunsStay promised.RunsStay
alike_runs_stay ps t p q k b = (same_runs_alike ps t p q).0 (runs_stay (replaced ps t) p q (accepted ps t k) b)

pub alike_same_by_runs : promised.AlikeSameByRuns
unfolding promised.AlikeSameByRuns promised.SameByRuns over replaced
alike_same_by_runs ps t p q k d o oq =
    let exact = same_by_runs (replaced ps t) p q (accepted ps t k) ((steps.deterministic_alike ps t).1 d) o oq in
    let alike = same_runs_alike ps t p q in
    ((λ e. alike.0 (exact.0 e)), (λ r. exact.1 (alike.1 r)))

pub alike_run_tells : promised.AlikeRunTells
unfolding promised.AlikeRunTells promised.RunTells over replaced
alike_run_tells ps t p q k d o oq e =
    telling_run_alike ps t p q (run_tells (replaced ps t) p q (accepted ps t k) ((steps.deterministic_alike ps t).1 d) o oq e)

-- OF THE CALLS
pub outcomes_told : promised.OutcomesTold
unfolding promised.OutcomesTold promised.AlikeChoiceExactly
outcomes_told bs ls n w =
    let b = no_choice (alike_table bs ls) in
    told_exactly b n (result_is (listed_refusal bs ls) (one_if b) n w).1 (alike_choice_exactly (alike_pairs ls) (table_in bs))

-- a comparison under a list: the table is accepted, and the plans are over it
module _ (bs ls p q s s' : List ℕ) (n : ℕ) (w : ComparedAlike bs ls p q s (pos n) s') where
  given : Accepted (alike_table bs ls) × AcceptedPlan (alike_table bs ls) p × AcceptedPlan (alike_table bs ls) q × (n ≡ one_if (same (alike_table bs ls) p q))
  given = answer_given (listed_refusal bs ls) (alike_table bs ls) (source bs ls) p q s s' n w

pub compared_runs_stay : promised.ComparedRunsStay
unfolding promised.ComparedRunsStay promised.RunsStay alikelists.AlikeCompareTells
compared_runs_stay bs ls p q s s' w =
    (same_runs_alike (alike_pairs ls) (table_in bs) p q).0
    (runs_stay (alike_table bs ls) p q (given bs ls p q s s' 1 w).0 ((alike_compare_tells bs ls p q s s' 1 w).0.0 refl))

pub compared_by_runs : promised.ComparedByRuns
unfolding promised.ComparedByRuns promised.SameByRuns promised.OutcomesTold
compared_by_runs bs ls p q s s' n d w =
    let t = alike_table bs ls in
    let (k, o, u, v) = given bs ls p q s s' n w in
    let single : Deterministic t = (steps.deterministic_alike (alike_pairs ls) (table_in bs)).1 ((outcomes_told bs ls 1 d).0.0 refl) in
    let exact : (same t p q ≡ true) ↔ SameRuns t p q = same_by_runs t p q k single o.over_table u.over_table in
    let alike = same_runs_alike (alike_pairs ls) (table_in bs) p q in
    told_exactly (same t p q) n v ((λ e. alike.0 (exact.0 e)), (λ r. exact.1 (alike.1 r)))

-- without a list
pub no_list_determined : promised.NoListDetermined
unfolding promised.NoListDetermined
no_list_determined bs r =
    let same : Determined bs [] r ≡ Gives (image_refusal bs) (one_if (no_choice (table_in bs))) r =
    λ i. Gives (no_refusal (image_refusal bs) i) (one_if (no_choice (no_replacement (table_in bs) i))) r in
    ((λ w. subst (λ (X : Type 0). X) same w), (λ w. subst (λ (X : Type 0). X) (sym same) w))
