-- The bits of no number, of one, and of two together, place by place. Assumes nothing.
use mathlib.Core.Path.{◌≡◌, sym, ap, ◌∙◌}
use mathlib.Core.Logic.{◌↔◌, ◌⊎◌, inl, inr, ⊎_elim}
use Prim.Native.Nat.{ℕ, suc, ◌+◌, ◌-◌, ◌*◌, ◌/◌, ◌%◌, ◌^◌, ◌<◌, max}
use native.Mathlib.Omega.{arith}
use native.Mathlib.Nat.{one-mul, pow-suc, mul-mod_left, div-eq_of_lt, zero-div}
use lib.Bits.{bit_or, or_step, or_shr}
use lib.Dec.{ltb, eqb, lit<}
use lib.Pow.{pow-add, pow-lt, shl-shr, shl_exact}
use borrow.Author.Tests.{ltb-true, ltb-false, eqb-true, eqb-false}
use Rattle.bpa.proofs.Basics.Cases.{by_test}
use Rattle.bits.specs.Bits.{bit}

pub bit_small : (w k : ℕ) → bit w k < 2
unfolding bit
bit_small w k = omega arith

-- a bit that is not set is clear
pub bit_clear : (w k : ℕ) → (bit w k ≡ 1 → ⊥) → bit w k ≡ 0
bit_clear w k f =
    by_test (eqb (bit w k) 1) (λ e. absurd (f (eqb-true (bit w k) 1 e))) (λ e. less (bit w k) (bit_small w k) (eqb-false (bit w k) 1 e))
  where
    less : (b : ℕ) → b < 2 → (b ≡ 1 → ⊥) → b ≡ 0
    less b h f = by_test (ltb 0 b) (λ l. absurd (f (omega (arith, ltb-true 0 b l)))) (λ l. omega (arith, ltb-false 0 b l))

-- NONE
pub zero_bit : (k : ℕ) → bit 0 k ≡ 0
unfolding bit
zero_bit k = ap (λ (n : ℕ). n % 2) (zero-div (2 ^ k))

pub none_set : (k : ℕ) → (bit 0 k ≡ 1) ↔ ⊥
none_set k = ((λ e. omega (arith, e, zero_bit k)), (λ f. absurd f))

-- ONE
module _ (j : ℕ) where
  bit_own : bit (2 ^ j) j ≡ 1
  unfolding bit
  bit_own = ap (λ (n : ℕ). n / 2 ^ j % 2) (sym (one-mul (2 ^ j))) ∙ ap (λ (n : ℕ). n % 2) (shl-shr 1 j)

  bit_above : (k : ℕ) → j < k → bit (2 ^ j) k ≡ 0
  unfolding bit
  bit_above k h = ap (λ (n : ℕ). n % 2) (div-eq_of_lt (pow-lt h))

  bit_below : (k : ℕ) → k < j → bit (2 ^ j) k ≡ 0
  unfolding bit
  bit_below k h =
      let d = j - suc k in
      let e : j ≡ suc d + k = omega arith in
      ap (λ (n : ℕ). 2 ^ n / 2 ^ k % 2) e ∙ ap (λ (n : ℕ). n / 2 ^ k % 2) (pow-add 2 (suc d) k)
      ∙ ap (λ (n : ℕ). n % 2) (shl-shr (2 ^ suc d) k) ∙ ap (λ (n : ℕ). n % 2) (pow-suc 2 d) ∙ mul-mod_left (2 ^ d) 2

  pub one_set : (k : ℕ) → (bit (2 ^ j) k ≡ 1) ↔ (k ≡ j)
  one_set k = (
    (λ e.
        by_test (ltb k j) (λ l. absurd (omega (arith, e, bit_below k (ltb-true k j l))))
        (λ l.
        by_test (ltb j k) (λ m. absurd (omega (arith, e, bit_above k (ltb-true j k m))))
        (λ m. omega (arith, ltb-false k j l, ltb-false j k m)))),
    (λ e. ap (bit (2 ^ j)) e ∙ bit_own),
  )

-- THOSE OF TWO
or_digit : (a b : ℕ) → bit_or a b % 2 ≡ max (a % 2) (b % 2)
or_digit a b = omega (arith, or_step a b)

pub or_bit : (a b k : ℕ) → bit (bit_or a b) k ≡ max (bit a k) (bit b k)
unfolding bit
or_bit a b k = ap (λ (n : ℕ). n % 2) (or_shr a b k) ∙ or_digit (a / 2 ^ k) (b / 2 ^ k)

pub either_set : (a b k : ℕ) {A B : Type 0} → (bit a k ≡ 1) ↔ A → (bit b k ≡ 1) ↔ B → (bit (bit_or a b) k ≡ 1) ↔ (A ⊎ B)
either_set a b k f g = (
  (λ e.
      by_test (eqb (bit a k) 1) (λ y. inl (f.0 (eqb-true (bit a k) 1 y)))
      (λ n. inr (g.0 (omega (arith, e, or_bit a b k, bit_clear a k (eqb-false (bit a k) 1 n)))))),
  (λ s.
      or_bit a b k ∙ ⊎_elim (λ x. left (bit a k) (bit b k) (f.1 x) (bit_small b k)) (λ x. right (bit a k) (bit b k) (bit_small a k) (g.1 x)) s),
)
  where
    left : (x y : ℕ) → x ≡ 1 → y < 2 → max x y ≡ 1
    left x y e h = omega arith

    right : (x y : ℕ) → x < 2 → y ≡ 1 → max x y ≡ 1
    right x y h e = omega arith

-- the bit of a place as it is made, in words of so many bits
pub shifted : (width k : ℕ) → k < width → (1 * 2 ^ k) % 2 ^ width ≡ 2 ^ k
shifted width k h = shl_exact 1 k width (lit< tt) (omega arith) ∙ one-mul (2 ^ k)
