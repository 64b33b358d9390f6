-- The answer of a replay by what was reached, and as a small number. Assumes nothing: these are definitions.
use Rattle.std.specs.Prelude.{◌≡◌, List, ℕ, ◌+◌, ◌-◌, ◌%◌, ◌≤◌, ◌<◌}
use Rattle.bpa.specs.Plans.{Table}
use Rattle.replay.specs.Replay.{replay}
use Rattle.reach.specs.declared.Reach.{Reach}
use Rattle.replaying.specs.declared.Outcome.{Outcome}
use Rattle.replaying.specs.declared.Outcome.TheVariants.{Whole, Part, Stopped}

-- the number that the call answers
abbrev pub number_of : Outcome → ℕ
number_of Whole = 1
number_of Part = 0
number_of (Stopped k) = 2 + k

-- whole if the plan can be through with no move left, else part if it can make all of them, else the place
pub record IsOutcome (count : ℕ) (reach : Reach) (r : ℕ) : Type 0 where
  pub whole : reach.low % 2 ≡ 1 → r ≡ 1
  pub part : (reach.low % 2 ≡ 1 → ⊥) → reach.least ≡ 0 → r ≡ 0
  pub place : (reach.low % 2 ≡ 1 → ⊥) → 0 < reach.least → r ≡ 2 + (count - reach.least)
  pub small : r ≤ 130

-- THE ANSWER about a table, a small number
pub record IsReplay (t : Table) (p log : List ℕ) (r : ℕ) : Type 0 where
  pub is : r ≡ replay t p log
  pub small : r ≤ 130
