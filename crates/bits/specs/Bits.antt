-- The bits of a number, and numbers as sets of places. Assumes nothing: these are definitions.
use Rattle.std.specs.Prelude.{◌≡◌, ◌↔◌, ℕ, ◌/◌, ◌%◌, ◌^◌, ◌<◌}

-- the bit of a word at a place
unfoldable pub bit : (word place : ℕ) → ℕ
bit w k = w / 2 ^ k % 2

-- a word whose bits are the numbers with a property
abbrev pub Holds : (word : ℕ) → (ℕ → Type 0) → Type 0
Holds w P = (k : ℕ) → (bit w k ≡ 1) ↔ P k

-- a set of jobs: a word with a place for each of the 24 jobs that a table can have
pub record JobBits (word : ℕ) (P : ℕ → Type 0) : Type 0 where
  pub small : word < 16777216
  pub holds : Holds word P
