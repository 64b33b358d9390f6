-- One refusal after another, and the two that concern a lent area alone. A refusal is its number, and 0 is none. Assumes nothing:
-- these are definitions.
use Rattle.std.specs.Prelude.{cond, List, ℕ, ltb, eqb, length, Result, Ok, Err}
use Rattle.answer.specs.declared.Refusal.{Refusal}
use Rattle.answer.specs.declared.Refusal.TheVariants.{WorkspaceShort, BadLength, BadChecksum, BadHeader, BadPlace, NoNorm, JobNormHigh, NoSuchJob, PlanNormHigh, OutputShort, LogLength, AlikeLength, AlikeClash, TablesLarge}

-- THE NUMBER of each refusal
unfoldable pub number : Refusal → ℕ
number WorkspaceShort = 1
number BadLength = 2
number BadChecksum = 3
number BadHeader = 4
number BadPlace = 5
number NoNorm = 6
number JobNormHigh = 7
number NoSuchJob = 8
number PlanNormHigh = 9
number OutputShort = 10
number LogLength = 11
number AlikeLength = 12
number AlikeClash = 13
number TablesLarge = 15

-- the refusal that a check comes to, or 0
unfoldable pub refusal_of : {A : Type 0} → Result A Refusal → ℕ
refusal_of (Ok a) = 0
refusal_of (Err r) = number r

-- the first refusal in checking order
unfoldable pub or_else : (first then : ℕ) → ℕ
or_else a b = cond (eqb a 0) b a

-- REFUSAL 1: the workspace is shorter than 65,536 bytes
unfoldable pub space_size : ℕ
space_size = 65536

unfoldable pub space_refusal : (space : List ℕ) → ℕ
space_refusal s = cond (ltb (length s) space_size) 1 0

-- REFUSAL 10: the output area is shorter than the output
unfoldable pub room_refusal : (bytes out : List ℕ) → ℕ
room_refusal bs o = cond (ltb (length o) (length bs)) 10 0
