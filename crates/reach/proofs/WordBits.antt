-- Words as sets of numbers below 64: none, one, and those of two. Assumes nothing.
use mathlib.Core.Logic.{◌↔◌, ◌⊎◌}
use Prim.Native.Nat.{ℕ, ◌^◌}
use mathlib.Core.Path.{◌≡◌}
use lib.Bits.{bit_or}
use Rattle.bits.proofs.PlaceBits.{none_set, one_set, either_set}
use Rattle.reach.specs.Reaches.{HoldsWord}

pub holds_none : HoldsWord 0 (λ k. ⊥)
holds_none k h = none_set k

pub holds_one : (j : ℕ) → HoldsWord (2 ^ j) (λ k. k ≡ j)
holds_one j k h = one_set j k

pub holds_either : (a b : ℕ) (A B : ℕ → Type 0) → HoldsWord a A → HoldsWord b B → HoldsWord (bit_or a b) (λ k. A k ⊎ B k)
holds_either a b A B f g k h = either_set a b k (f k h) (g k h)

-- the same numbers, said otherwise
pub holds_as : (w : ℕ) (A B : ℕ → Type 0) → ((k : ℕ) → A k ↔ B k) → HoldsWord w A → HoldsWord w B
holds_as w A B f h k l = ((λ e. (f k).0 ((h k l).0 e)), (λ b. (h k l).1 ((f k).1 b)))
