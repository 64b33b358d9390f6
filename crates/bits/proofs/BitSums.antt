-- The bits of a sum of numbers that share none, and of what is left of a number without bits that it has. Assumes nothing.
use mathlib.Core.Path.{◌≡◌, ap}
use Prim.Native.Nat.{ℕ, zero, suc, ◌+◌, ◌-◌, ◌/◌, ◌^◌, ◌≤◌}
use native.Mathlib.Omega.{arith}
use lib.Bits.{bit_or, or_add_and, and_le_r}
use lib.Dec.{ltb}
use borrow.Author.Tests.{ltb-true, ltb-false}
use Rattle.bpa.proofs.Basics.Cases.{by_test}
use Rattle.bits.specs.Bits.{bit}
use Rattle.bits.proofs.TrailingBits.{bit_first, bit_next, set_within}

-- no place is set in both
abbrev pub Disjoint : (a b : ℕ) → Type 0
Disjoint a b = (k : ℕ) → bit a k + bit b k ≤ 1

disjoint_half : (a b : ℕ) → Disjoint a b → Disjoint (a / 2) (b / 2)
disjoint_half a b f k = omega (arith, f (suc k), bit_next a k, bit_next b k)

pub bit_plus : (k a b : ℕ) → Disjoint a b → bit (a + b) k ≡ bit a k + bit b k
bit_plus zero a b f = omega (arith, f 0, bit_first a, bit_first b, bit_first (a + b))
bit_plus (suc k) a b f =
    let half : (a + b) / 2 ≡ a / 2 + b / 2 = omega (arith, f 0, bit_first a, bit_first b) in
    omega (arith, bit_next (a + b) k, ap (λ (n : ℕ). bit n k) half, bit_plus k (a / 2) (b / 2) (disjoint_half a b f), bit_next a k, bit_next b k)

-- each place of one is set in the other
abbrev pub Contained : (a b : ℕ) → Type 0
Contained a b = (k : ℕ) → bit a k ≤ bit b k

contained_half : (a b : ℕ) → Contained a b → Contained (a / 2) (b / 2)
contained_half a b f k = omega (arith, f (suc k), bit_next a k, bit_next b k)

pub bit_minus : (k a b : ℕ) → a ≤ b → Contained a b → bit (b - a) k + bit a k ≡ bit b k
bit_minus zero a b h f = omega (arith, f 0, bit_first a, bit_first b, bit_first (b - a))
bit_minus (suc k) a b h f =
    let half : (b - a) / 2 ≡ b / 2 - a / 2 = omega (arith, f 0, bit_first a, bit_first b) in
    let less : a / 2 ≤ b / 2 = omega arith in
    omega (arith, bit_next (b - a) k, ap (λ (n : ℕ). bit n k) half, bit_minus k (a / 2) (b / 2) less (contained_half a b f), bit_next a k, bit_next b k)

-- a place that is set is no more than the number
pub place_least : (n k : ℕ) → bit n k ≡ 1 → 2 ^ k ≤ n
place_least n k b =
    by_test (ltb n (2 ^ k)) (λ l. let z = set_within n k k b (ltb-true n (2 ^ k) l) in absurd (omega (arith, z))) (λ l. ltb-false n (2 ^ k) l)

pub or_least : (a b : ℕ) → a ≤ bit_or a b
or_least a b = omega (arith, or_add_and a b, and_le_r a b)
