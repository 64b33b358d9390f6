-- Numbers as text, and as parts of answers. Assumes nothing: these are definitions.
use Rattle.std.specs.Prelude.{cond, List, ℕ, zero, suc, ◌/◌, ltb, ℤ, pos, negsuc}
use Rattle.io.specs.Digits.{last_digits}

-- how many decimal digits a number has, one more than the fuel at most
unfoldable pub places : (fuel n : ℕ) → ℕ
places zero n = 1
places (suc f) n = cond (ltb n 10) 1 (suc (places f (n / 10)))

-- A NUMBER IN DECIMAL, as ASCII; 20 digits hold 64 bits
unfoldable pub number : ℕ → List ℕ
number n = last_digits 10 (places 19 n) n

-- the number of a refusal; a result has none
unfoldable pub refusal_in : ℤ → ℕ
refusal_in (pos n) = 0
refusal_in (negsuc n) = suc n

-- a result; a refusal has none
unfoldable pub result_in : ℤ → ℕ
result_in (pos n) = n
result_in (negsuc n) = 0
