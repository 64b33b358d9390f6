-- HOW MANY rows of a weight there are, at the most. Assumes at most 24 jobs.
use mathlib.Core.Path.{◌≡◌}
use mathlib.Core.List.{List, [], ◌∷◌}
use Prim.Native.Nat.{ℕ, zero, suc, ◌*◌, ◌≤◌, ◌<◌}
use native.Mathlib.Nat.{suc-mul, mul-le-mul_right}
use native.Mathlib.Omega.{arith}
use lib.ListN.{length}
use Rattle.catalogue.specs.Catalogue.{follows, begun, rows_down, rows_of}
use Rattle.catalogue.proofs.BegunRows.{by_order, by_lesser, none_begun, begun_long}
use Rattle.catalogue.proofs.WeightedRows.{follows_cases}

-- HOW MANY: with at most 24 jobs, 24 times as many for each unit of weight at the most
unfoldable pub most_rows : (weight : ℕ) → ℕ
most_rows zero = 1
most_rows (suc v) = 24 * most_rows v

pub most_rise : (u v : ℕ) → u ≤ v → most_rows u ≤ most_rows v
unfolding most_rows
most_rise u zero h = let z : u ≡ 0 = omega arith in rw z (omega arith)
most_rise u (suc v) h = by_order u (suc v) (λ (l : u < suc v). omega (arith, most_rise u v (omega arith))) (λ (l : suc v ≤ u). let z : u ≡ suc v = omega arith in rw z (omega arith))

begun_few : (b : ℕ) (ls : List (List (List ℕ))) → ((w : ℕ) → length (follows w ls) ≤ b) → (ws : List ℕ) (j : ℕ) →
    length (begun ws j ls) ≤ length ws * b
begun_few b ls f [] j = omega (arith, none_begun ls j)
begun_few b ls f (w ∷ ws) j = omega (arith, f w, begun_few b ls f ws (suc j), begun_long w ws j ls, suc-mul (length ws) b)

module _ (ws : List ℕ) (few : length ws ≤ 24) where
  rows_few : (v : ℕ) → ((u : ℕ) → u < v → length (rows_of ws u) ≤ most_rows u) → length (rows_of ws v) ≤ most_rows v
  unfolding rows_of rows_down most_rows
  rows_few zero lesser = omega arith
  rows_few (suc v) lesser =
      omega (
        arith,
        mul-le-mul_right (most_rows v) few,
        begun_few (most_rows v) (rows_down ws v)
            (λ w. follows_cases ws (λ l. length l ≤ most_rows v) v w (omega arith) (λ u h e. omega (arith, lesser u (omega arith), most_rise u v (omega arith)))) ws 0,
      )

  pub listed_few : (v : ℕ) → length (rows_of ws v) ≤ most_rows v
  listed_few = by_lesser (λ v. length (rows_of ws v) ≤ most_rows v) rows_few
