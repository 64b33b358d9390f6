-- What is promised of tables without a choice of outcome, and of plans over them by their complete runs: statements, each a field of EveryPromise
-- and proved by a term of its name in small letters. Assumes nothing.
use Rattle.std.specs.Prelude.{◌≡◌, true, false, List, [], ◌↔◌, ℕ, ℤ, pos}
use Rattle.bpa.specs.Plans.{Table, over, Step}
use Rattle.bpa.specs.Bisimilar.{Bisimilar}
use Rattle.bpa.specs.Method.{same}
use Rattle.answer.specs.Answer.{one_if, Gives}
use Rattle.refusal.specs.Refusals.{Accepted}
use Rattle.image.specs.Image.{image_refusal, table_in}
use Rattle.first_run.specs.FirstRun.{SameRules}
use Rattle.alike.specs.Alike.{Pair, replaced}
use Rattle.alike_list.specs.AlikeLists.{alike_pairs}
use Rattle.sameness.specs.SamenessCalls.{ComparedAlike}
use Rattle.deterministic.specs.Deterministic.{Deterministic, DeterministicAlike, no_choice}
use Rattle.deterministic.specs.CompleteRuns.{SameRuns, SameRunsAlike, TellingRun, TellingRunAlike}
use Rattle.outcomes.specs.OutcomeCalls.{Determined}

-- THE PROPERTY. The test is exact: of a table, and of one whose moves are replaced by a list
unfoldable pub ChoiceExactly : Type 0
ChoiceExactly = (t : Table) → (no_choice t ≡ true) ↔ Deterministic t

unfoldable pub AlikeChoiceExactly : Type 0
AlikeChoiceExactly = (ps : List Pair) (t : Table) → (no_choice (replaced ps t) ≡ true) ↔ DeterministicAlike ps t

-- it says that no plan has two steps by one move to different plans
unfoldable pub StepsSingle : Type 0
StepsSingle =
    (t : Table) → Deterministic t ↔ ((p : List ℕ) (a : ℕ) (q r : List ℕ) → Step t p a q → Step t p a r → q ≡ r)

-- and does not depend on the order of the rules, nor on how often each is written
unfoldable pub ChoiceReordered : Type 0
ChoiceReordered = (t u : Table) → SameRules t u → no_choice t ≡ no_choice u

-- a list takes no choice away
unfoldable pub ChoiceStays : Type 0
ChoiceStays = (ps : List Pair) (t : Table) → no_choice (replaced ps t) ≡ true → no_choice t ≡ true

-- COMPLETE RUNS
-- one half, of every table: plans that are the same allow the same complete runs
unfoldable pub RunsStay : Type 0
RunsStay = (t : Table) (p q : List ℕ) → Accepted t → Bisimilar t p q → SameRuns t p q

-- without a choice of outcome plans are the same exactly if they do
unfoldable pub SameByRuns : Type 0
SameByRuns =
    (t : Table) (p q : List ℕ) → Accepted t → Deterministic t → over t p ≡ true → over t q ≡ true →
    (same t p q ≡ true) ↔ SameRuns t p q

-- and of plans that are apart one has a complete run that the other has not
unfoldable pub RunTells : Type 0
RunTells =
    (t : Table) (p q : List ℕ) → Accepted t → Deterministic t → over t p ≡ true → over t q ≡ true →
    same t p q ≡ false → TellingRun t p q

-- THE SAME UNDER A LIST, of the runs of the table as it is, whose moves count as the same
unfoldable pub AlikeRunsStay : Type 0
AlikeRunsStay = (ps : List Pair) (t : Table) (p q : List ℕ) → Accepted t → Bisimilar (replaced ps t) p q → SameRunsAlike ps t p q

unfoldable pub AlikeSameByRuns : Type 0
AlikeSameByRuns =
    (ps : List Pair) (t : Table) (p q : List ℕ) → Accepted t → DeterministicAlike ps t → over t p ≡ true → over t q ≡ true →
    (same (replaced ps t) p q ≡ true) ↔ SameRunsAlike ps t p q

unfoldable pub AlikeRunTells : Type 0
AlikeRunTells =
    (ps : List Pair) (t : Table) (p q : List ℕ) → Accepted t → DeterministicAlike ps t → over t p ≡ true → over t q ≡ true →
    same (replaced ps t) p q ≡ false → TellingRunAlike ps t p q

-- OF THE CALLS. 1 exactly if no job makes moves that count as one into different rows, and 0 exactly if some job does
unfoldable pub OutcomesTold : Type 0
OutcomesTold =
    (bs ls : List ℕ) (n : ℕ) → Determined bs ls (pos n) →
    ((n ≡ 1) ↔ DeterministicAlike (alike_pairs ls) (table_in bs)) × ((n ≡ 0) ↔ (DeterministicAlike (alike_pairs ls) (table_in bs) → ⊥))

-- once it is 1, a comparison under the same list tells exactly whether the plans allow the same complete runs
unfoldable pub ComparedByRuns : Type 0
ComparedByRuns =
    (bs ls p q s s' : List ℕ) (n : ℕ) → Determined bs ls (pos 1) → ComparedAlike bs ls p q s (pos n) s' →
    ((n ≡ 1) ↔ SameRunsAlike (alike_pairs ls) (table_in bs) p q) × ((n ≡ 0) ↔ (SameRunsAlike (alike_pairs ls) (table_in bs) p q → ⊥))

-- whatever it is, plans that are said to be the same allow the same complete runs
unfoldable pub ComparedRunsStay : Type 0
ComparedRunsStay =
    (bs ls p q s s' : List ℕ) → ComparedAlike bs ls p q s (pos 1) s' → SameRunsAlike (alike_pairs ls) (table_in bs) p q

-- without a list it is about the table as it is
unfoldable pub NoListDetermined : Type 0
NoListDetermined = (bs : List ℕ) (r : ℤ) → Determined bs [] r ↔ Gives (image_refusal bs) (one_if (no_choice (table_in bs))) r
