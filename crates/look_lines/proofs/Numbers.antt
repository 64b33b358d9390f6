-- What `io::decimal` writes is the number in decimal; how many digits that takes. Assumes nothing.
use mathlib.Core.Path.{◌≡◌, refl, sym, ap, ◌∙◌}
use mathlib.Core.List.{[], ◌∷◌}
use Prim.Native.Nat.{ℕ, zero, suc, ◌-◌, ◌/◌, ◌%◌, ◌^◌, ◌≤◌, ◌<◌}
use native.Mathlib.Nat.{pow-succ', pow-le-pow_right}
use native.Mathlib.Omega.{arith}
use borrow.Author.Tests.{ltb-true, ltb-false, leb-true, leb-false}
use lib.Dec.{ltb, leb, lit<}
use lib.ListN.{length, length-append}
use Rattle.io.specs.Digits.{last_digits, hex_digit_ascii, IsDigitCount}
use Rattle.bpa.proofs.Basics.Cases.{by_test}
use Rattle.bpa.proofs.Norm.NormRounds.{cond_elim}
use Rattle.look_lines.specs.Numbers.{places, number}

digits_length : (k n : ℕ) → length (last_digits 10 k n) ≡ k
digits_length zero n = refl
digits_length (suc k) n =
    length-append (last_digits 10 k (n / 10)) (hex_digit_ascii (n % 10) ∷ []) ∙ omega (arith, digits_length k (n / 10))

less_one : (k : ℕ) → 10 ^ (suc k - 1) ≡ 10 ^ k
less_one k = ap (λ (x : ℕ). 10 ^ x) (omega arith)

-- below ten there is one digit
one_place : (n k : ℕ) → IsDigitCount 10 1 n (suc k) → n < 10 → 1 ≡ suc k
one_place n zero h b = refl
one_place n (suc k) h b =
    let most : 10 ^ 1 ≤ 10 ^ suc k = pow-le-pow_right (lit< tt) {i = 1} {j = suc k} (omega arith) in
    omega (arith, h.2 (omega arith), less_one (suc k))

-- from ten on there is one more than the tenth part has
tenth : (n k : ℕ) → IsDigitCount 10 1 n (suc k) → 10 ≤ n → IsDigitCount 10 1 (n / 10) k
tenth n zero h b = omega (arith, h.1)
tenth n (suc k) h b = (
  omega arith,
  omega (arith, h.1, pow-succ' 10 (suc k)),
  λ l. omega (arith, h.2 (omega arith), less_one (suc k), less_one k, pow-succ' 10 k),
)

-- the count is the only one that is fewest
places_are : (f n k : ℕ) → IsDigitCount 10 1 n k → k ≤ suc f → places f n ≡ k
unfolding places
places_are f n zero h b = omega (arith, h.0)
places_are zero n (suc k) h b = omega arith
places_are (suc f) n (suc k) h b =
    cond_elim (λ (x : ℕ). x ≡ suc k) (ltb n 10) 1 (suc (places f (n / 10)))
    (λ e. one_place n k h (ltb-true n 10 e))
    (λ e. ap suc (places_are f (n / 10) k (tenth n k h (ltb-false n 10 e)) (omega arith)))

-- no more digits than a power of ten that is above the number
places_within : (f n m : ℕ) → n < 10 ^ suc m → places f n ≤ suc m
unfolding places
places_within zero n m h = omega arith
places_within (suc f) n zero h =
    cond_elim (λ (x : ℕ). x ≤ 1) (ltb n 10) 1 (suc (places f (n / 10)))
    (λ e. omega arith)
    (λ e. omega (arith, ltb-false n 10 e))
places_within (suc f) n (suc m) h =
    cond_elim (λ (x : ℕ). x ≤ suc (suc m)) (ltb n 10) 1 (suc (places f (n / 10)))
    (λ e. omega arith)
    (λ e. omega (arith, places_within f (n / 10) m (omega (arith, h, pow-succ' 10 (suc m)))))

few_places : (n k : ℕ) → IsDigitCount 10 1 n k → n < 10 ^ 20 → k ≤ 20
few_places n k h b =
    by_test (leb k 20) (leb-true k 20)
    (λ e.
    let more : 20 < k = leb-false k 20 e in
    let most : 10 ^ 20 ≤ 10 ^ (k - 1) = pow-le-pow_right (lit< tt) {i = 20} {j = k - 1} (omega arith) in
    omega (arith, h.2 (omega arith)))

-- a number of 64 bits has at most 20 digits
pub number_is : (n k : ℕ) → IsDigitCount 10 1 n k → n < 2 ^ 64 → last_digits 10 k n ≡ number n
unfolding number
number_is n k h b = ap (λ (x : ℕ). last_digits 10 x n) (sym (places_are 19 n k h (few_places n k h (omega arith))))

pub number_within : (n m : ℕ) → n < 10 ^ suc m → length (number n) ≤ suc m
unfolding number
number_within n m h = omega (arith, digits_length (places 19 n) n, places_within 19 n m h)

pub number_few : (n : ℕ) → n < 2 ^ 64 → length (number n) ≤ 20
number_few n h = number_within n 19 (omega arith)
