-- Two-byte numbers, low byte first. Assumes nothing: these are definitions.
use Rattle.std.specs.Prelude.{◌≡◌, List, [], ◌∷◌, ◌++◌, ℕ, suc, ◌+◌, ◌*◌, ◌/◌, ◌%◌, ◌<◌, get_or}

-- the number at a place of some bytes
unfoldable pub number_at : (at : ℕ) → List ℕ → ℕ
number_at i bs = get_or bs i 0 + 256 * get_or bs (suc i) 0

-- the bytes of a number
unfoldable pub low_first : (number : ℕ) → List ℕ
low_first v = (v % 256) ∷ (v / 256 % 256) ∷ []

-- the bytes of numbers in a row, and the numbers of such bytes; a byte too many at the end is none
unfoldable pub all_low_first : (numbers : List ℕ) → List ℕ
all_low_first [] = []
all_low_first (v ∷ vs) = low_first v ++ all_low_first vs

unfoldable pub numbers_in : List ℕ → List ℕ
numbers_in [] = []
numbers_in (low ∷ []) = []
numbers_in (low ∷ high ∷ bs) = (low + 256 * high) ∷ numbers_in bs

-- the number of two bytes
pub record IsNumber (low high r : ℕ) : Type 0 where
  pub is : r ≡ low + 256 * high
  pub small : r < 65536
