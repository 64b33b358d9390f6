-- The n-th move of a plan as bytes, and the rule that it comes from. Assumes nothing: these are definitions.
use Rattle.std.specs.Prelude.{◌≡◌, cond, List, [], ◌∷◌, ◌++◌, ℕ, zero, suc, ◌≤◌, ltb, length}
use Rattle.bpa.specs.Plans.{Move, job_moves}
use Rattle.area.specs.Numbers.{low_first}
use Rattle.rules.specs.Places.{rules_in, rule_count, rule_at}
use Rattle.rules.specs.Lists.{HasPlace}
use Rattle.moves.specs.Shown.{once}

-- THE n-TH MOVE of a list: its number in two bytes, then the remaining plan; nothing if there is no such move
unfoldable pub move_bytes : List Move → (n : ℕ) → List ℕ
move_bytes [] n = []
move_bytes (m ∷ ms) zero = low_first m.move ++ m.rest
move_bytes (m ∷ ms) (suc n) = move_bytes ms n

-- the bytes of a move by the rule at a place, with jobs that wait
unfoldable pub bytes_by : (rules : List ℕ) → (i : ℕ) → (waiting : List ℕ) → List ℕ
bytes_by rs i w = low_first (rule_at rs i).move ++ ((rule_at rs i).after ++ w)

-- the place of the n-th of a job's rules that are shown, whatever waits behind the job, or the end of the list
pub record IsNth (rs : List ℕ) (j n i : ℕ) : Type 0 where
  pub place : i ≤ rule_count rs
  pub move : (w : List ℕ) → move_bytes (once (job_moves j w (rules_in (rule_count rs) rs))) n ≡ cond (ltb i (rule_count rs)) (bytes_by rs i w) []

-- room for the bytes of a move
pub record RoomFor (rs : List ℕ) (i : ℕ) (w out : List ℕ) : Type 0 where
  pub rule : HasPlace rs i
  pub room : length (bytes_by rs i w) ≤ length out
