-- The places that rows of bits lead to. Assumes nothing: these are definitions.
use Rattle.std.specs.Prelude.{◌≡◌, List, ℕ, ◌<◌, get_or}
use Rattle.bits.specs.Bits.{bit}

-- linked to a word: its own places, and those of the row of each place that is
pub data Linked (rows : List ℕ) (from : ℕ) : (place : ℕ) → Type 0 where
  own : (k : ℕ) → bit from k ≡ 1 → Linked rows from k
  next : (i k : ℕ) → Linked rows from i → bit (get_or rows i 0) k ≡ 1 → Linked rows from k

-- rows with a place for each job
abbrev pub SmallRows : (rows : List ℕ) → Type 0
SmallRows rows = (i : ℕ) → i < 24 → get_or rows i 0 < 16777216
