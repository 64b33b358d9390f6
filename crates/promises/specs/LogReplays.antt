-- What is promised of logs replayed on plans: statements, each a field of EveryPromise and proved by a term of its name in small letters.
-- Assumes nothing.
use Rattle.std.specs.Prelude.{◌≡◌, true, List, [], ◌∷◌, ◌++◌, map, ◌↔◌, ◌⊎◌, ℕ, suc, ◌+◌, ◌/◌, ◌%◌, ◌≤◌, ◌<◌, ℤ, pos, length, take}
use Rattle.bpa.specs.Plans.{Table, over, Runs}
use Rattle.answer.specs.Refusals.{or_else}
use Rattle.answer.specs.Answer.{GivesWithSpace}
use Rattle.refusal.specs.Refusals.{Accepted}
use Rattle.image.specs.Image.{table_in}
use Rattle.table.specs.CallRefusals.{one_plan}
use Rattle.first_run.specs.FirstRun.{SameRules, first_run}
use Rattle.alike.specs.Alike.{Pair, replace, replaced}
use Rattle.alike_list.specs.AlikeLists.{alike_pairs}
use Rattle.replay.specs.Replay.{Begins, replay}
use Rattle.log_moves.specs.Logs.{log_moves, log_refusal}
use Rattle.logs.specs.LogCalls.{Replayed}

-- REFUSAL 11 is given exactly if there are more than 128 moves, or half a move at the end
unfoldable pub ElevenExactly : Type 0
ElevenExactly = (g : List ℕ) → (log_refusal g ≡ 11) ↔ ((128 < length g / 2) ⊎ (0 < length g % 2))

-- THE ANSWER. Whole: 1 exactly if the log is a complete run
unfoldable pub WholeExactly : Type 0
WholeExactly = (t : Table) (p log : List ℕ) → (replay t p log ≡ 1) ↔ Runs t p log []

-- part: 0 exactly if it is not, and some complete run begins with it
unfoldable pub PartExactly : Type 0
PartExactly =
    (t : Table) (p log : List ℕ) → Accepted t → over t p ≡ true →
    (replay t p log ≡ 0) ↔ ((Runs t p log [] → ⊥) × ((more : List ℕ) × Runs t p (log ++ more) []))

-- a place: 2 plus it exactly if some run begins with the moves before it, and none with those up to and including it
unfoldable pub PlaceExactly : Type 0
PlaceExactly =
    (t : Table) (p log : List ℕ) (k : ℕ) →
    (replay t p log ≡ 2 + k)
    ↔ (((end : List ℕ) × Runs t p (take k log) end) × (((end : List ℕ) × Runs t p (take (suc k) log) end) → ⊥))

-- it is a place of the log
unfoldable pub PlaceInside : Type 0
PlaceInside = (t : Table) (p log : List ℕ) (k : ℕ) → replay t p log ≡ 2 + k → k < length log

-- every run of an accepted table can be completed: what some run begins with, some complete run begins with
unfoldable pub RunsComplete : Type 0
RunsComplete =
    (t : Table) (p log : List ℕ) → Accepted t → over t p ≡ true → Begins t p log → (more : List ℕ) × Runs t p (log ++ more) []

-- the empty log is whole on the empty plan and part on any other, and the empty plan makes no move
unfoldable pub NothingReplayed : Type 0
NothingReplayed =
    (t : Table) (j a : ℕ) (p log : List ℕ) → (replay t [] [] ≡ 1) × (replay t (j ∷ p) [] ≡ 0) × (replay t [] (a ∷ log) ≡ 2)

-- NO UNLUCKY CHOICE: the order of the rules does not matter, nor how often each is written
unfoldable pub ReplaysReordered : Type 0
ReplaysReordered = (t u : Table) (p log : List ℕ) → SameRules t u → replay t p log ≡ replay u p log

-- the first shortest run is whole
unfoldable pub FirstRunWhole : Type 0
FirstRunWhole = (t : Table) (p : List ℕ) → Accepted t → over t p ≡ true → replay t p (first_run t p) ≡ 1

-- THE RUNS OF THE REPLACED TABLE are those of the table, their moves replaced
unfoldable pub ReplacedRuns : Type 0
ReplacedRuns =
    (ps : List Pair) (t : Table) (p run q : List ℕ) →
    Runs (replaced ps t) p run q ↔ ((raw : List ℕ) × Runs t p raw q × (map (replace ps) raw ≡ run))

-- OF THE CALL. A run of the table as it is, with moves that count as those of a row by an alike list
abbrev pub RunsAlike : (list : List ℕ) → Table → (plan row end : List ℕ) → Type 0
RunsAlike ls t p row end =
    (raw : List ℕ) × Runs t p raw end × (map (replace (alike_pairs ls)) raw ≡ map (replace (alike_pairs ls)) row)

-- 1 exactly if some complete run has moves that count as the log's
unfoldable pub ReplayWhole : Type 0
ReplayWhole =
    (bs ls p g s s' : List ℕ) (n : ℕ) → Replayed bs ls p g s (pos n) s' → (n ≡ 1) ↔ RunsAlike ls (table_in bs) p (log_moves g) []

-- 0 exactly if none has, and some complete run begins with such moves
unfoldable pub ReplayPart : Type 0
ReplayPart =
    (bs ls p g s s' : List ℕ) (n : ℕ) → Replayed bs ls p g s (pos n) s' →
    (n ≡ 0)
    ↔ ((RunsAlike ls (table_in bs) p (log_moves g) [] → ⊥) × ((more : List ℕ) × RunsAlike ls (table_in bs) p (log_moves g ++ more) []))

-- 2 plus a place exactly if some run has moves that count as those before it, and none as those up to and including it
unfoldable pub ReplayPlace : Type 0
ReplayPlace =
    (bs ls p g s s' : List ℕ) (n k : ℕ) → Replayed bs ls p g s (pos n) s' →
    (n ≡ 2 + k)
    ↔ (((end : List ℕ) × RunsAlike ls (table_in bs) p (take k (log_moves g)) end)
    × (((end : List ℕ) × RunsAlike ls (table_in bs) p (take (suc k) (log_moves g)) end) → ⊥))

-- a number of at most 129
unfoldable pub ReplaySmall : Type 0
ReplaySmall = (bs ls p g s s' : List ℕ) (n : ℕ) → Replayed bs ls p g s (pos n) s' → n ≤ 129

-- without a list it is about the table and the log as they are
unfoldable pub NoListReplayed : Type 0
NoListReplayed =
    (bs p g s : List ℕ) (r : ℤ) (s' : List ℕ) →
    Replayed bs [] p g s r s'
    ↔ GivesWithSpace (or_else (one_plan bs p) (log_refusal g)) (replay (table_in bs) p (log_moves g)) s r s'
