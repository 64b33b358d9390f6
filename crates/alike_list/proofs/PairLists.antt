-- The pairs of a list by their places in its bytes. Assumes nothing.
use mathlib.Core.Path.{◌≡◌, refl, ap, ◌∙◌}
use mathlib.Core.List.{List, [], ◌∷◌, ◌++◌}
use Prim.Native.Nat.{ℕ, zero, suc, ◌+◌, ◌*◌, ◌<◌}
use native.Mathlib.Numerals.{add-one}
use native.Mathlib.Omega.{arith}
use lib.ListN.{length, get_or, take, drop}
use lib.Seq.{take-suc, drop-cons, get_or-drop}
use Rattle.area.specs.Numbers.{number_at}
use Rattle.alike.specs.Alike.{Pair}
use Rattle.alike_list.specs.AlikeLists.{pairs_in, pair_count, alike_pairs}
use Rattle.alike_list.specs.PairArrays.{WholePairs}

length_pairs : (n : ℕ) (ls : List ℕ) → length (pairs_in n ls) ≡ n
unfolding pairs_in
length_pairs zero ls = refl
length_pairs (suc n) ls = ap suc (length_pairs n (drop 4 ls))

-- the pair that stands at a place
abbrev pub pair_at : (list : List ℕ) → (k : ℕ) → Pair
pair_at ls k = record { from = number_at (4 * k) ls; to = number_at (4 * k + 2) ls }

pub number_drop : (n i : ℕ) (ls : List ℕ) → number_at i (drop n ls) ≡ number_at (n + i) ls
unfolding number_at
number_drop n i ls =
    let e : n + suc i ≡ suc (n + i) = omega arith in
    λ d. get_or-drop n ls i 0 d + 256 * (get_or-drop n ls (suc i) 0 ∙ ap (λ (j : ℕ). get_or ls j 0) e) d

at_next : (ls : List ℕ) (k : ℕ) → pair_at (drop 4 ls) k ≡ pair_at ls (suc k)
at_next ls k =
    let e : 4 + 4 * k ≡ 4 * suc k = omega arith in
    let f : 4 + (4 * k + 2) ≡ 4 * suc k + 2 = omega arith in
    λ d. record {
      from = (number_drop 4 (4 * k) ls ∙ ap (λ (j : ℕ). number_at j ls) e) d;
      to = (number_drop 4 (4 * k + 2) ls ∙ ap (λ (j : ℕ). number_at j ls) f) d;
    }

there : (n : ℕ) (ls : List ℕ) (k : ℕ) (d : Pair) → k < n → get_or (pairs_in n ls) k d ≡ pair_at ls k
unfolding pairs_in
there zero ls k d h = absurd (omega arith)
there (suc n) ls zero d h = refl
there (suc n) ls (suc k) d h = there n (drop 4 ls) k d (omega arith) ∙ at_next ls k

module _ {ls : List ℕ} {count : ℕ} (w : WholePairs ls count) where
  count_is : pair_count ls ≡ count
  unfolding pair_count
  count_is = omega (arith, w.size)

  pub whole_length : length (alike_pairs ls) ≡ count
  unfolding alike_pairs
  whole_length = length_pairs (pair_count ls) ls ∙ count_is

  pub pair_there : (k : ℕ) → k < count → (d : Pair) → get_or (alike_pairs ls) k d ≡ pair_at ls k
  unfolding alike_pairs
  pair_there k h d = there (pair_count ls) ls k d (omega (arith, count_is))

  pub pair_next : (k : ℕ) → k < count → drop k (alike_pairs ls) ≡ pair_at ls k ∷ drop (k + 1) (alike_pairs ls)
  unfolding alike_pairs
  pair_next k h =
      let ps = pairs_in (pair_count ls) ls in
      rw add-one
      (drop-cons ps k (pair_at ls k) (omega (arith, whole_length)) ∙ ap (λ (p : Pair). p ∷ drop (suc k) ps) (there (pair_count ls) ls k _ (omega (arith, count_is))))

  pub pair_more : (k : ℕ) → k < count → take (k + 1) (alike_pairs ls) ≡ take k (alike_pairs ls) ++ (pair_at ls k ∷ [])
  unfolding alike_pairs
  pair_more k h =
      let ps = pairs_in (pair_count ls) ls in
      rw add-one
      (take-suc ps k (pair_at ls k) (omega (arith, whole_length)) ∙ ap (λ (p : Pair). take k ps ++ (p ∷ [])) (there (pair_count ls) ls k _ (omega (arith, count_is))))
