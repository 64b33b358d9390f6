-- The zeros at the low end of a number: the bits below them are clear, and the one above them is set. Assumes nothing.
use mathlib.Core.Path.{◌≡◌, refl, sym, ap, ◌∙◌}
use Prim.Native.Nat.{ℕ, zero, suc, ◌+◌, ◌/◌, ◌%◌, ◌^◌, ◌<◌}
use native.Mathlib.Omega.{arith}
use native.Mathlib.Nat.{pow-succ', pow-suc, div-one, div-div-eq-div-mul, div-eq_of_lt, div-lt_iff_lt-mul, zero-lt-suc, lt_of_lt_of_le}
use lib.Count.{count_trailing_zeros, under}
use lib.Dec.{ltb}
use lib.Pow.{pow_mono, shr-shr}
use borrow.Author.Tests.{ltb-true, ltb-false}
use Rattle.bpa.proofs.Basics.Cases.{by_test}
use Rattle.bits.specs.Bits.{bit}

pub bit_first : (n : ℕ) → bit n 0 ≡ n % 2
unfolding bit
bit_first n = ap (λ (m : ℕ). m % 2) (div-one n)

pub bit_next : (n k : ℕ) → bit n (suc k) ≡ bit (n / 2) k
unfolding bit
bit_next n k = ap (λ (m : ℕ). m % 2) (ap (λ (m : ℕ). n / m) (pow-succ' 2 k) ∙ sym (div-div-eq-div-mul n 2 (2 ^ k)))

-- a bit of what is left after a shift
pub bit_shifted : (n j k : ℕ) → bit (n / 2 ^ j) k ≡ bit n (j + k)
unfolding bit
bit_shifted n j k = ap (λ (m : ℕ). m % 2) (shr-shr n j k)

bit_beyond : (n k : ℕ) → n < 2 ^ k → bit n k ≡ 0
unfolding bit
bit_beyond n k h = ap (λ (m : ℕ). m % 2) (div-eq_of_lt h)

-- below the lowest bit that is set
pub clear_below : (d n k : ℕ) → k < count_trailing_zeros d n → bit n k ≡ 0
unfolding count_trailing_zeros
clear_below zero n k h = absurd (omega arith)
clear_below (suc d) n k h = go (n % 2) refl k h (λ i. clear_below d (n / 2) i)
  where
    go : (r : ℕ) → n % 2 ≡ r → (k : ℕ) → k < under r (count_trailing_zeros d (n / 2)) →
        ((i : ℕ) → i < count_trailing_zeros d (n / 2) → bit (n / 2) i ≡ 0) → bit n k ≡ 0
    go zero e zero h f = bit_first n ∙ e
    go zero e (suc k) h f = bit_next n k ∙ f k (omega arith)
    go (suc r) e k h f = absurd (omega arith)

-- half of a number below a power of two is below the power before it
pub half_small : (d n : ℕ) → n < 2 ^ suc d → n / 2 < 2 ^ d
half_small d n h = (div-lt_iff_lt-mul (zero-lt-suc 1)).1 (rw (pow-suc 2 d) at h)

-- the lowest bit that is set
pub set_above : (d n : ℕ) → 0 < n → n < 2 ^ d → bit n (count_trailing_zeros d n) ≡ 1
unfolding count_trailing_zeros
set_above zero n h l = absurd (none n h l)
  where
    none : (n : ℕ) → 0 < n → n < 1 → ⊥
    none n h l = omega arith
set_above (suc d) n h l = go (n % 2) refl (λ p. set_above d (n / 2) p (half_small d n l))
  where
    go : (r : ℕ) → n % 2 ≡ r → (0 < n / 2 → bit (n / 2) (count_trailing_zeros d (n / 2)) ≡ 1) → bit n (under r (count_trailing_zeros d (n / 2))) ≡ 1
    go zero e f = bit_next n (count_trailing_zeros d (n / 2)) ∙ f (omega arith)
    go (suc r) e f = bit_first n ∙ omega (arith, e)

-- a number below a power of two has its lowest bit below the exponent
pub set_within : (n k e : ℕ) → bit n k ≡ 1 → n < 2 ^ e → k < e
set_within n k e b h =
    by_test (ltb k e) (λ l. ltb-true k e l)
    (λ l. let z = bit_beyond n k (lt_of_lt_of_le h (pow_mono (ltb-false k e l))) in absurd (omega (arith, b, z)))
