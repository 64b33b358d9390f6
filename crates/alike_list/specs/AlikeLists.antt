-- Alike lists as bytes: pairs of a from-move and a to-move, two bytes each, and REFUSALS 12 AND 13. Assumes nothing: these are definitions.
use Rattle.std.specs.Prelude.{◌||◌, cond, List, [], ◌∷◌, ℕ, zero, suc, ◌/◌, ◌%◌, ltb, length, drop}
use Rattle.area.specs.Numbers.{number_at}
use Rattle.answer.specs.Refusals.{or_else}
use Rattle.alike.specs.Alike.{Pair, clashes}

-- so many pairs of some bytes
unfoldable pub pairs_in : (left : ℕ) → List ℕ → List Pair
pairs_in zero bs = []
pairs_in (suc k) bs = record { from = number_at 0 bs; to = number_at 2 bs } ∷ pairs_in k (drop 4 bs)

unfoldable pub pair_count : (list : List ℕ) → ℕ
pair_count ls = length ls / 4

-- THE PAIRS of an alike list
unfoldable pub alike_pairs : (list : List ℕ) → List Pair
alike_pairs ls = pairs_in (pair_count ls) ls

-- REFUSAL 12: more than 32 pairs, or an unfinished pair at the end
unfoldable pub pairs_refusal : (list : List ℕ) → ℕ
pairs_refusal ls = cond (ltb 32 (pair_count ls) || ltb 0 (length ls % 4)) 12 0

-- REFUSAL 13: a from-move stands twice, or stands anywhere as a to-move
unfoldable pub clash_refusal : (list : List ℕ) → ℕ
clash_refusal ls = cond (clashes (alike_pairs ls)) 13 0

unfoldable pub alike_refusal : (list : List ℕ) → ℕ
alike_refusal ls = or_else (pairs_refusal ls) (clash_refusal ls)
