-- Sets of numbers below 128 as the bits of two words, with the least of some numbers. Assumes nothing: these are definitions.
use Rattle.std.specs.Prelude.{◌≡◌, List, ◌↔◌, ℕ, ◌+◌, ◌≤◌, ◌<◌, min}
use Rattle.std.specs.Int.Bits.{bit_or}
use Rattle.bits.specs.Bits.{bit}
use Rattle.reach.specs.Cells.{reach_in}
use Rattle.reach.specs.declared.Reach.{Reach}

-- a word whose bits are the numbers with a property
abbrev pub HoldsWord : (word : ℕ) → (ℕ → Type 0) → Type 0
HoldsWord w P = (k : ℕ) → k < 64 → (bit w k ≡ 1) ↔ P k

-- THE NUMBERS IN A REACH: those with the one property, all below 128, are its bits, and the least with the other is its least
pub record Reaches (E G : ℕ → Type 0) (reach : Reach) : Type 0 where
  pub low_holds : HoldsWord reach.low E
  pub high_holds : HoldsWord reach.high (λ k. E (64 + k))
  pub small : (e : ℕ) → E e → e < 128
  pub got : G reach.least
  pub fewest : (e : ℕ) → G e → reach.least ≤ e
  pub short : reach.least ≤ 128

-- a cell that holds them
abbrev pub CellReaches : (cell : ℕ) → (cells : List ℕ) → (E G : ℕ → Type 0) → Type 0
CellReaches c bs E G = Reaches E G (reach_in c bs)

-- one number alone
abbrev pub Alone : (number : ℕ) → Reach → Type 0
Alone d reach = Reaches (λ e. e ≡ d) (λ e. e ≡ d) reach

-- two reaches joined
pub record Joins (left right both : Reach) : Type 0 where
  pub low_is : both.low ≡ bit_or left.low right.low
  pub high_is : both.high ≡ bit_or left.high right.high
  pub least_is : both.least ≡ min left.least right.least
