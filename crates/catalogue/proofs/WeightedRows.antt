-- THE ROWS OF A WEIGHT are those of jobs with a weight that have it in all, each once, in dictionary order. Assumes nothing.
use mathlib.Core.Path.{◌≡◌, refl, sym, ap, ap₂, ◌∙◌, subst}
use mathlib.Core.Bool.{true}
use mathlib.Core.List.{List, [], ◌∷◌}
use Prim.Native.Nat.{ℕ, zero, suc, ◌+◌, ◌-◌, ◌≤◌, ◌<◌}
use native.Mathlib.Omega.{arith}
use lib.Dec.{ltb}
use lib.ListN.{length, get_or, take, get_or-eq_default}
use borrow.Author.Tests.{ltb-true, lt-ltb}
use Rattle.bpa.specs.Norms.{sum_of, all_known}
use Rattle.bpa.proofs.Basics.Cases.{and_left, and_right, and_both}
use Rattle.catalogue.specs.Catalogue.{Entry, Rising, follows, begun, rows_down, rows_of}
use Rattle.catalogue.proofs.BegunRows.{by_order, by_lesser, Begins, begun_begins, begun_place, begun_within, begun_rises}

-- WHAT CAN FOLLOW a job in a row of weight v + 1: the rows of what is left of the weight
module _ (ws : List ℕ) where
  down_long : (v : ℕ) → length (rows_down ws v) ≡ suc v
  unfolding rows_down
  down_long zero = refl
  down_long (suc v) = ap suc (down_long v)

  down_at : (i v u : ℕ) → i + u ≡ v → get_or (rows_down ws v) i [] ≡ rows_of ws u
  unfolding rows_down rows_of
  down_at zero v u e = let h : v ≡ u = omega arith in ap (λ (n : ℕ). get_or (rows_down ws n) 0 []) h
  down_at (suc i) zero u e = absurd (omega arith)
  down_at (suc i) (suc v) u e = down_at i v u (omega arith)

  pub follows_left : (v w u : ℕ) → 1 ≤ w → w + u ≡ suc v → follows w (rows_down ws v) ≡ rows_of ws u
  unfolding follows
  follows_left v zero u h e = absurd (omega arith)
  follows_left v (suc w) u h e = down_at w v u (omega arith)

  pub follows_none : (v : ℕ) → follows 0 (rows_down ws v) ≡ []
  unfolding follows
  follows_none v = refl

  pub follows_heavy : (v w : ℕ) → suc v < w → follows w (rows_down ws v) ≡ []
  unfolding follows
  follows_heavy v zero h = absurd (omega arith)
  follows_heavy v (suc w) h = get_or-eq_default (rows_down ws v) [] (omega (arith, down_long v))

  -- what holds of no rows, and of the rows of what is left, holds of what can follow
  pub follows_cases : (P : List (List ℕ) → Type 0) (v w : ℕ) → P [] →
      ((u : ℕ) → 1 ≤ w → w + u ≡ suc v → P (rows_of ws u)) → P (follows w (rows_down ws v))
  follows_cases P v w e f =
      by_order 0 w
      (λ (h : 0 < w). by_order (suc v) w
      (λ (k : suc v < w). subst P (sym (follows_heavy v w k)) e)
      (λ (k : w ≤ suc v). subst P (sym (follows_left v w (suc v - w) h (omega arith))) (f (suc v - w) h (omega arith))))
      (λ (h : w ≤ 0). let z : w ≡ 0 = omega arith in rw z (subst P (sym (follows_none v)) e))

-- a job with a weight stands in the list
pub within_length : (ws : List ℕ) (x : ℕ) → 0 < get_or ws x 0 → x < length ws
within_length [] x h = absurd (omega arith)
within_length (w ∷ ws) zero h = omega arith
within_length (w ∷ ws) (suc x) h = omega (arith, within_length ws x h)

-- A ROW OF A WEIGHT: each of its jobs has a weight, and this is their sum
pub record Weighs (ws : List ℕ) (v : ℕ) (f : List ℕ) : Type 0 where
  pub known : all_known ws f ≡ true
  pub sum : sum_of ws f ≡ v

module _ (ws : List ℕ) where
  empty_weighs : (k : ℕ) → Weighs ws 0 (get_or (rows_of ws 0) k [])
  unfolding rows_of rows_down all_known sum_of
  empty_weighs zero = record { known = refl; sum = refl }
  empty_weighs (suc k) = record { known = refl; sum = refl }

  longer_weighs : (x u v : ℕ) (f : List ℕ) → 1 ≤ get_or ws x 0 → get_or ws x 0 + u ≡ v → Weighs ws u f → Weighs ws v (x ∷ f)
  unfolding all_known sum_of
  longer_weighs x u v f h e r = record {
    known = and_both (ltb 0 (get_or ws x 0)) (all_known ws f) (lt-ltb 0 (get_or ws x 0) h) r.known;
    sum = omega (arith, r.sum);
  }

  empty_listed : Entry (rows_of ws 0) []
  unfolding rows_of rows_down
  empty_listed = (0, omega arith, refl)

  begun_listed : (v : ℕ) {row : List ℕ} → Entry (begun ws 0 (rows_down ws v)) row → Entry (rows_of ws (suc v)) row
  unfolding rows_of rows_down
  begun_listed v e = e

  begins_listed : (x : ℕ) (f : List ℕ) → 0 < get_or ws x 0 → Entry (rows_of ws (sum_of ws f)) f →
      Entry (rows_of ws (get_or ws x 0 + sum_of ws f)) (x ∷ f)
  begins_listed x f h (i, l, e) =
      let v : ℕ = get_or ws x 0 + sum_of ws f - 1 in
      let s : suc v ≡ get_or ws x 0 + sum_of ws f = omega arith in
      let k : follows (get_or ws x 0) (rows_down ws v) ≡ rows_of ws (sum_of ws f) = follows_left ws v (get_or ws x 0) (sum_of ws f) h (sym s) in
      let is : (0 + x) ∷ get_or (follows (get_or ws x 0) (rows_down ws v)) i [] ≡ x ∷ f = ap₂ ◌∷◌ (omega arith) (ap (λ (r : List (List ℕ)). get_or r i []) k ∙ e) in
      let inside : x < length ws = within_length ws x h in
      let there : i < length (follows (get_or ws x 0) (rows_down ws v)) = omega (arith, l, ap length k) in
      let place : ℕ = length (begun (take x ws) 0 (rows_down ws v)) + i in
      subst (λ (n : ℕ). Entry (rows_of ws n) (x ∷ f)) s
      (begun_listed v
      (place, begun_within (rows_down ws v) ws 0 x i inside there, begun_place (rows_down ws v) ws 0 x i inside there ∙ is))

  -- THE ROWS LISTED have the weight
  RowsWeigh : (v : ℕ) → Type 0
  RowsWeigh v = (k : ℕ) → k < length (rows_of ws v) → Weighs ws v (get_or (rows_of ws v) k [])

  begun_weighs : (v : ℕ) → ((u : ℕ) → u < suc v → RowsWeigh u) → (row : List ℕ) → Begins ws 0 (rows_down ws v) row → Weighs ws (suc v) row
  unfolding RowsWeigh
  begun_weighs v lesser row b =
      subst (Weighs ws (suc v)) (sym b.is)
      (follows_cases ws (λ l. (i : ℕ) → i < length l → Weighs ws (suc v) ((0 + b.place) ∷ get_or l i [])) v (get_or ws b.place 0)
      (λ i h. absurd (omega arith))
      (λ u h e i l.
      let x : b.place ≡ 0 + b.place = omega arith in
      subst (λ (j : ℕ). Weighs ws (suc v) (j ∷ get_or (rows_of ws u) i [])) x
      (longer_weighs b.place u (suc v) (get_or (rows_of ws u) i []) h e (lesser u (omega arith) i l)))
      b.next b.there)

  rows_weigh : (v : ℕ) → ((u : ℕ) → u < v → RowsWeigh u) → RowsWeigh v
  unfolding RowsWeigh rows_of rows_down
  rows_weigh zero lesser k h = empty_weighs k
  rows_weigh (suc v) lesser k h = begun_weighs v lesser (get_or (begun ws 0 (rows_down ws v)) k []) (begun_begins (rows_down ws v) ws 0 k h)

  pub listed_weighs : (v k : ℕ) → k < length (rows_of ws v) → Weighs ws v (get_or (rows_of ws v) k [])
  unfolding RowsWeigh
  listed_weighs = by_lesser RowsWeigh rows_weigh

  -- ALL ROWS OF A WEIGHT are listed
  pub weighs_listed : (f : List ℕ) → all_known ws f ≡ true → Entry (rows_of ws (sum_of ws f)) f
  unfolding all_known sum_of
  weighs_listed [] h = empty_listed
  weighs_listed (x ∷ f) h =
      begins_listed x f (ltb-true 0 (get_or ws x 0) (and_left (ltb 0 (get_or ws x 0)) (all_known ws f) h))
      (weighs_listed f (and_right (ltb 0 (get_or ws x 0)) (all_known ws f) h))

  -- AND THEY RISE
  rows_rise : (v : ℕ) → ((u : ℕ) → u < v → Rising (rows_of ws u)) → Rising (rows_of ws v)
  unfolding rows_of rows_down
  rows_rise zero lesser = λ i k h l. absurd (omega arith)
  rows_rise (suc v) lesser =
      begun_rises (rows_down ws v)
      (λ w. follows_cases ws Rising v w (λ i k h l. absurd (omega arith)) (λ u h e. lesser u (omega arith))) ws 0

  pub listed_rise : (v : ℕ) → Rising (rows_of ws v)
  listed_rise = by_lesser (λ v. Rising (rows_of ws v)) rows_rise
