-- What the call that replays a log answers and leaves behind, for every input. Assumes nothing: these are definitions.
use Rattle.std.specs.Prelude.{◌≡◌, List, ℕ, ℤ}
use Rattle.answer.specs.Refusals.{or_else}
use Rattle.answer.specs.Answer.{Gives, with_space, space_after, GivesWithSpace}
use Rattle.replay.specs.Replay.{replay}
use Rattle.alike_list.specs.AlikeTables.{alike_table, one_plan_alike}
use Rattle.log_moves.specs.Logs.{counted_log, log_refusal}

-- refusals 2 to 7, 12, 13, 8, 9 and then 11
abbrev pub plan_and_log : (image alike plan log : List ℕ) → ℕ
plan_and_log bs ls p g = or_else (one_plan_alike bs ls p) (log_refusal g)

-- the answer: moves of the table and of the log are both replaced
abbrev pub replayed : (image alike plan log : List ℕ) → ℕ
replayed bs ls p g = replay (alike_table bs ls) p (counted_log ls g)

-- REPLAY A LOG: 1 for whole, 0 for part, else 2 plus the place
abbrev pub Replayed : (image alike plan log space : List ℕ) → ℤ → (space' : List ℕ) → Type 0
Replayed bs ls p g s r s' = GivesWithSpace (plan_and_log bs ls p g) (replayed bs ls p g) s r s'

-- The same before the workspace is cleared: what is left in it is gone then
pub record Replaying (bs ls p g s : List ℕ) (r : ℤ) (s' : List ℕ) : Type 0 where
  pub answer : Gives (with_space s (plan_and_log bs ls p g)) (replayed bs ls p g) r
  pub clears : space_after s' ≡ space_after s
