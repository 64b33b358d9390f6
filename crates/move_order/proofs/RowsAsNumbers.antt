-- Rows of bytes read as rows of two-byte numbers: how many these are, the number of a place, and those of an equal front.
-- Assumes nothing.
use mathlib.Core.Path.{◌≡◌, refl, sym, ap, ap₂, ◌∙◌}
use mathlib.Core.List.{List, [], ◌∷◌, ◌++◌}
use Prim.Native.Nat.{ℕ, zero, suc, ◌+◌, ◌*◌, ◌≤◌, ◌<◌}
use native.Mathlib.Omega.{arith}
use lib.ListN.{length, get_or, take, drop, length-drop}
use lib.Seq.{take-add, take-take}
use Rattle.area.specs.Numbers.{number_at, numbers_in}
use Rattle.area.proofs.Parts.{rest_part}
use Rattle.comparing.specs.Comparisons.{Common}
use Rattle.comparing.proofs.WholePlans.{rest_lent}

twice_suc : (k : ℕ) → 2 * suc k ≡ suc (suc (2 * k))
twice_suc k = omega arith

-- two bytes each, and a byte too many is none
halved : (l : List ℕ) → (2 * length (numbers_in l) ≤ length l) × (length l ≤ 2 * length (numbers_in l) + 1)
unfolding numbers_in
halved [] = (omega arith, omega arith)
halved (a ∷ []) = (omega arith, omega arith)
halved (a ∷ b ∷ l) = let h = halved l in (omega arith, omega arith)

pub number_inside : (k : ℕ) (l : List ℕ) → 2 * k + 1 < length l → k < length (numbers_in l)
number_inside k l h = omega (arith, halved l)

pub numbers_end : (k : ℕ) (l : List ℕ) → length l ≤ 2 * k + 1 → length (numbers_in l) ≤ k
numbers_end k l h = omega (arith, halved l)

pub number_of : (k : ℕ) (l : List ℕ) → 2 * k + 1 < length l → number_at (2 * k) l ≡ get_or (numbers_in l) k 0
unfolding numbers_in number_at
number_of k [] h = absurd (omega arith)
number_of k (a ∷ []) h = absurd (omega arith)
number_of zero (a ∷ b ∷ l) h = refl
number_of (suc k) (a ∷ b ∷ l) h = ap (λ n. number_at n (a ∷ b ∷ l)) (twice_suc k) ∙ number_of k l (omega arith)

front_numbers : (k : ℕ) (l : List ℕ) → take k (numbers_in l) ≡ numbers_in (take (2 * k) l)
unfolding numbers_in
front_numbers zero l = refl
front_numbers (suc k) [] = rw (twice_suc k)
front_numbers (suc k) (a ∷ []) = rw (twice_suc k)
front_numbers (suc k) (a ∷ b ∷ l) = rw (twice_suc k) (ap (λ ns. (a + 256 * b) ∷ ns) (front_numbers k l))

module _ (left right : List ℕ) where
  -- what the rests behind an equal front begin with in common
  pub common_rest : (i n : ℕ) → Common left right i → Common (rest_lent left i) (rest_lent right i) n → Common left right (i + n)
  common_rest i n c d =
      let e : take n (drop i left) ≡ take n (drop i right) = rw (rest_part left i, rest_part right i) at d.equal in record {
        in_left = omega (arith, ap length (rest_part left i), length-drop i left);
        in_right = omega (arith, ap length (rest_part right i), length-drop i right);
        equal = take-add i n left ∙ ap₂ ◌++◌ c.equal e ∙ sym (take-add i n right);
      }

  -- the numbers of an equal front of bytes
  pub common_numbers : (n k : ℕ) → 2 * k ≤ n → Common left right n → Common (numbers_in left) (numbers_in right) k
  common_numbers n k h c = record {
    in_left = omega (arith, halved left);
    in_right = omega (arith, halved right);
    equal = front_numbers k left
        ∙ ap numbers_in (sym (take-take (2 * k) n left h) ∙ ap (take (2 * k)) c.equal ∙ take-take (2 * k) n right h)
        ∙ sym (front_numbers k right);
  }
