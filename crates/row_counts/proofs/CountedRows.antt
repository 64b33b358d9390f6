-- The sum over the jobs is the number of rows. Assumes nothing.
use mathlib.Core.Path.{◌≡◌, refl, sym, ap, ap₂, ◌∙◌, subst}
use mathlib.Core.Bool.{Bool, cond}
use mathlib.Core.List.{List, [], ◌∷◌}
use Prim.Native.Nat.{ℕ, zero, suc, ◌+◌, ◌-◌, ◌≤◌, ◌<◌}
use native.Mathlib.Omega.{arith}
use lib.Dec.{ltb}
use lib.ListN.{length, get_or, take, drop, set, length-set}
use lib.Seq.{get_or-set_same, get_or-set_other}
use borrow.Author.Tests.{eq-eqb, ne_eqb, lt-ltb, le-ltb}
use Rattle.catalogue.specs.Catalogue.{follows, begun, rows_down, rows_of}
use Rattle.catalogue.proofs.BegunRows.{by_order, none_begun, begun_long}
use Rattle.catalogue.proofs.WeightedRows.{follows_left, follows_none, follows_heavy}
use Rattle.catalogue.proofs.RowCounts.{most_rows, most_rise, listed_few}
use Rattle.row_counts.specs.Counts.{Counts, follow_count, total, Small}

-- the three cases of how many rows can follow
pub follow_none : (cs : List ℕ) (v w : ℕ) → w ≡ 0 → follow_count cs v w ≡ 0
unfolding follow_count
follow_none cs v w e = ap (λ (b : Bool). cond b 0 (cond (ltb v w) 0 (get_or cs (v - w) 0))) (eq-eqb w 0 e)

pub follow_heavy : (cs : List ℕ) (v w : ℕ) → v < w → follow_count cs v w ≡ 0
unfolding follow_count
follow_heavy cs v w h =
    ap₂ (λ (a b : Bool). cond a 0 (cond b 0 (get_or cs (v - w) 0))) (ne_eqb w 0 (λ e. omega arith)) (lt-ltb v w h)

pub follow_left : (cs : List ℕ) (v w : ℕ) → 1 ≤ w → w ≤ v → follow_count cs v w ≡ get_or cs (v - w) 0
unfolding follow_count
follow_left cs v w h k =
    ap₂ (λ (a b : Bool). cond a 0 (cond b 0 (get_or cs (v - w) 0))) (ne_eqb w 0 (λ e. omega arith)) (le-ltb v w k)

-- none of them is large
pub follow_small : (cs : List ℕ) (v w : ℕ) → Small v cs → follow_count cs v w ≤ 1521681143169024
follow_small cs v w s =
    by_order 0 w
    (λ (h : 0 < w). by_order v w (λ (k : v < w). omega (arith, follow_heavy cs v w k)) (λ (k : w ≤ v). omega (arith, follow_left cs v w h k, s.few (v - w) (omega arith))))
    (λ (h : w ≤ 0). omega (arith, follow_none cs v w (omega arith)))

-- ROWS COUNTED
module _ (ws : List ℕ) (v : ℕ) (cs : List ℕ) (c : Counts ws (suc v) cs) where
  pub followers_are : (w : ℕ) → length (follows w (rows_down ws v)) ≡ follow_count cs (suc v) w
  followers_are w =
      by_order 0 w
      (λ (h : 0 < w). by_order (suc v) w
      (λ (k : suc v < w). ap length (follows_heavy ws v w k) ∙ sym (follow_heavy cs (suc v) w k))
      (λ (k : w ≤ suc v). ap length (follows_left ws v w (suc v - w) h (omega arith)) ∙ sym (follow_left cs (suc v) w h k ∙ c.at (suc v - w) (omega arith))))
      (λ (h : w ≤ 0). let z : w ≡ 0 = omega arith in ap (λ (x : ℕ). length (follows x (rows_down ws v))) z ∙ ap length (follows_none ws v) ∙ sym (follow_none cs (suc v) w z))

  pub begun_total : (us : List ℕ) (j : ℕ) → length (begun us j (rows_down ws v)) ≡ total cs (suc v) us
  unfolding total
  begun_total [] j = none_begun (rows_down ws v) j
  begun_total (w ∷ us) j = begun_long w us j (rows_down ws v) ∙ ap₂ ◌+◌ (followers_are w) (begun_total us (suc j))

  pub rows_total : length (rows_of ws (suc v)) ≡ total cs (suc v) ws
  unfolding rows_of rows_down
  rows_total = begun_total ws 0

-- A SUM OVER JOBS from a place on
module _ (cs : List ℕ) (v : ℕ) where
  pub total_at : (ws : List ℕ) (x : ℕ) → x < length ws → total cs v (drop x ws) ≡ follow_count cs v (get_or ws x 0) + total cs v (drop (suc x) ws)
  unfolding total
  total_at [] x h = absurd (omega arith)
  total_at (w ∷ ws) zero h = refl
  total_at (w ∷ ws) (suc x) h = total_at ws x (omega arith)

  -- over the jobs up to a place
  pub total_take : (ws : List ℕ) (x : ℕ) → x < length ws → total cs v (take (suc x) ws) ≡ total cs v (take x ws) + follow_count cs v (get_or ws x 0)
  unfolding total
  total_take [] x h = absurd (omega arith)
  total_take (w ∷ ws) zero h = omega arith
  total_take (w ∷ ws) (suc x) h = omega (arith, total_take ws x (omega arith))

-- THE NUMBERS ARE SMALL, if there are at most 24 jobs
pub counts_small : (ws : List ℕ) (v : ℕ) (cs : List ℕ) → length ws ≤ 24 → v ≤ 12 → Counts ws v cs → Small v cs
unfolding most_rows
counts_small ws v cs few h c = record {
  size = c.size;
  few = λ u l. omega (arith, c.at u l, listed_few ws few u, most_rise u 11 (omega arith));
}

-- the first number, and one more
pub counts_first : (ws cs : List ℕ) → length cs ≡ 13 → get_or cs 0 0 ≡ 1 → Counts ws 1 cs
unfolding rows_of rows_down
counts_first ws cs s e = record { size = s; at = λ u h. let z : u ≡ 0 = omega arith in rw z e }

pub counts_next : (ws : List ℕ) (v : ℕ) (cs : List ℕ) → 1 ≤ v → v ≤ 12 → Counts ws v cs → (n : ℕ) → n ≡ total cs v ws → Counts ws (v + 1) (set cs v n)
counts_next ws zero cs l h c n e = absurd (omega arith)
counts_next ws (suc v) cs l h c n e = record {
  size = length-set cs (suc v) n ∙ c.size;
  at = λ u k. by_order u (suc v)
      (λ (m : u < suc v). get_or-set_other cs (suc v) u n 0 (λ d. omega arith) ∙ c.at u m)
      (λ (m : suc v ≤ u). let d : suc v ≡ u = omega arith in
      subst (λ (x : ℕ). get_or (set cs (suc v) n) x 0 ≡ length (rows_of ws x)) d
      (get_or-set_same cs (suc v) n 0 (omega (arith, c.size)) ∙ e ∙ sym (rows_total ws v cs c)));
}
