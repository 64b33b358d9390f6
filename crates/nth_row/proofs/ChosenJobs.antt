-- The first job of a row is the one that the index comes to, and a row is written job by job. Assumes nothing.
use mathlib.Core.Path.{◌≡◌, refl, sym, ap, ap₂, ◌∙◌, subst}
use mathlib.Core.List.{List, [], ◌∷◌, ◌++◌, append_assoc, append-nil}
use Prim.Native.Nat.{ℕ, zero, suc, ◌+◌, ◌-◌, ◌≤◌, ◌<◌}
use native.Mathlib.Numerals.{add-one}
use native.Mathlib.Omega.{arith}
use lib.ListN.{length, get_or, take, drop, set, length-set}
use lib.Seq.{take-suc-set}
use Rattle.catalogue.specs.Catalogue.{follows, begun, rows_down, rows_of}
use Rattle.catalogue.proofs.BegunRows.{by_order, begun_place}
use Rattle.catalogue.proofs.WeightedRows.{follows_left}
use Rattle.row_counts.specs.Counts.{Counts, follow_count, total}
use Rattle.row_counts.proofs.CountedRows.{follow_none, follow_heavy, followers_are, begun_total, rows_total, total_at, total_take}
use Rattle.nth_row.specs.Rows.{Chosen}
use Rattle.nth_row.specs.declared.Choice.{Choice}

-- THE JOBS PASSED OVER: the rows that begin with them come before the index, and those that begin with the others reach it
pub record Passing (cs : List ℕ) (v : ℕ) (ws : List ℕ) (index x left : ℕ) : Type 0 where
  pub inside : x ≤ length ws
  pub before : index ≡ total cs v (take x ws) + left
  pub less : left < total cs v (drop x ws)

module _ (cs : List ℕ) (v : ℕ) (ws : List ℕ) (index : ℕ) where
  pub passing_first : index < total cs v ws → Passing cs v ws index 0 index
  unfolding total
  passing_first h = record { inside = omega arith; before = omega arith; less = h }

  module _ (x left : ℕ) (p : Passing cs v ws index x left) (h : x < length ws) (n : ℕ) (is : n ≡ follow_count cs v (get_or ws x 0)) where
    pub passing_found : left < n → Chosen cs v ws index (record { job = x; index = left })
    passing_found l = record { inside = h; there = omega arith; before = p.before }

    pub passing_next : n ≤ left → Passing cs v ws index (x + 1) (left - n)
    passing_next l = record {
      inside = omega arith;
      before = omega (arith, p.before, total_take cs v ws x h, ap (λ (k : ℕ). total cs v (take k ws)) (add-one x));
      less = omega (arith, p.less, total_at cs v ws x h, ap (λ (k : ℕ). total cs v (drop k ws)) (add-one x));
    }

-- THE ROW AT THE INDEX begins with the job chosen
module _ (ws : List ℕ) (v : ℕ) (cs : List ℕ) (c : Counts ws (suc v) cs) (k : ℕ) (d : Choice) (h : Chosen cs (suc v) ws k d) where
  abbrev x : ℕ
  x = d.job

  abbrev i : ℕ
  i = d.index

  abbrev w : ℕ
  w = get_or ws x 0

  some_weight : (1 ≤ w) × (w ≤ suc v)
  some_weight =
      by_order 0 w
      (λ (a : 0 < w). by_order (suc v) w (λ (b : suc v < w). absurd (omega (arith, h.there, follow_heavy cs (suc v) w b))) (λ (b : w ≤ suc v). (a, b)))
      (λ (a : w ≤ 0). absurd (omega (arith, h.there, follow_none cs (suc v) w (omega arith))))

  follow_rows : follows w (rows_down ws v) ≡ rows_of ws (suc v - w)
  follow_rows = follows_left ws v w (suc v - w) some_weight.0 (omega (arith, some_weight.1))

  chosen_less : i < length (rows_of ws (suc v - w))
  chosen_less = omega (arith, h.there, followers_are ws v cs c w, ap length follow_rows)

  chosen_is : get_or (rows_of ws (suc v)) k [] ≡ x ∷ get_or (rows_of ws (suc v - w)) i []
  unfolding rows_of rows_down
  chosen_is =
      let there : i < length (follows w (rows_down ws v)) = omega (arith, h.there, followers_are ws v cs c w) in
      let at : k ≡ length (begun (take x ws) 0 (rows_down ws v)) + i = omega (arith, h.before, begun_total ws v cs c (take x ws) 0) in
      let z : 0 + x ≡ x = omega arith in
      ap (λ (n : ℕ). get_or (begun ws 0 (rows_down ws v)) n []) at ∙ begun_place (rows_down ws v) ws 0 x i h.inside there
      ∙ ap₂ ◌∷◌ z (ap (λ (r : List (List ℕ)). get_or r i []) follow_rows)

-- fewer numbers of rows
fewer : {ws : List ℕ} {n : ℕ} (cs : List ℕ) → Counts ws n cs → (m : ℕ) → m ≤ n → Counts ws m cs
fewer cs c m h = record { size = c.size; at = λ u l. c.at u (omega arith) }

nothing_left : (ws : List ℕ) (k : ℕ) → get_or (rows_of ws 0) k [] ≡ []
unfolding rows_of rows_down
nothing_left ws zero = refl
nothing_left ws (suc k) = refl

-- A ROW BEING WRITTEN: the jobs so far, and then the row of what is left of the weight at its own index
pub record Writing (ws : List ℕ) (weight index : ℕ) (row : List ℕ) (len left k : ℕ) : Type 0 where
  pub size : length row ≡ 12
  pub fits : len + left ≤ weight
  pub less : k < length (rows_of ws left)
  pub is : take len row ++ get_or (rows_of ws left) k [] ≡ get_or (rows_of ws weight) index []

module _ (ws : List ℕ) (weight index : ℕ) where
  pub writing_first : (row : List ℕ) → length row ≡ 12 → index < length (rows_of ws weight) → Writing ws weight index row 0 weight index
  writing_first row s h = record { size = s; fits = omega arith; less = h; is = refl }

  module _ (row : List ℕ) (len left k : ℕ) (r : Writing ws weight index row len left k) (small : weight ≤ 12) where
    -- what the choice of the next job asks
    pub writing_counts : (cs : List ℕ) → Counts ws (weight + 1) cs → 0 < left → k < total cs left ws
    writing_counts cs c h =
        let d : suc (left - 1) ≡ left = omega arith in
        omega (arith, r.less, subst (λ (n : ℕ). length (rows_of ws n) ≡ total cs n ws) d (rows_total ws (left - 1) cs (fewer cs c (suc (left - 1)) (omega (arith, r.fits)))))

    -- the job chosen has a weight, within what is left
    pub writing_weight : (cs : List ℕ) → Counts ws (weight + 1) cs → 0 < left → (d : Choice) → Chosen cs left ws k d → (1 ≤ get_or ws d.job 0) × (get_or ws d.job 0 ≤ left)
    writing_weight cs c h d chosen =
        let e : left ≡ suc (left - 1) = omega arith in
        let f = some_weight ws (left - 1) cs (fewer cs c (suc (left - 1)) (omega (arith, r.fits))) k d (subst (λ (n : ℕ). Chosen cs n ws k d) e chosen) in
        (f.0, omega (arith, f.1))

    pub writing_next : (cs : List ℕ) → Counts ws (weight + 1) cs → 0 < left → (d : Choice) → Chosen cs left ws k d →
        Writing ws weight index (set row len d.job) (len + 1) (left - get_or ws d.job 0) d.index
    writing_next cs c h d chosen =
        let v : ℕ = left - 1 in
        let e : left ≡ suc v = omega arith in
        let a = fewer cs c (suc v) (omega (arith, r.fits)) in
        let f : Chosen cs (suc v) ws k d = subst (λ (n : ℕ). Chosen cs n ws k d) e chosen in
        record {
          size = length-set row len d.job ∙ r.size;
          fits = omega (arith, r.fits, some_weight ws v cs a k d f);
          less = subst (λ (n : ℕ). d.index < length (rows_of ws (n - get_or ws d.job 0))) (sym e) (chosen_less ws v cs a k d f);
          is = longer (subst (λ (n : ℕ). get_or (rows_of ws n) k [] ≡ d.job ∷ get_or (rows_of ws (n - get_or ws d.job 0)) d.index []) (sym e) (chosen_is ws v cs a k d f));
        }
      where
        longer : get_or (rows_of ws left) k [] ≡ d.job ∷ get_or (rows_of ws (left - get_or ws d.job 0)) d.index [] →
            take (len + 1) (set row len d.job) ++ get_or (rows_of ws (left - get_or ws d.job 0)) d.index [] ≡ get_or (rows_of ws weight) index []
        longer q =
            let rest : List ℕ = get_or (rows_of ws (left - get_or ws d.job 0)) d.index [] in
            ap (λ (n : ℕ). take n (set row len d.job) ++ rest) (add-one len) ∙ ap (λ (l : List ℕ). l ++ rest) (take-suc-set row len d.job (omega (arith, r.fits, r.size)))
            ∙ append_assoc (take len row) (d.job ∷ []) rest ∙ ap (λ (l : List ℕ). take len row ++ l) (sym q) ∙ r.is

    -- nothing is left
    pub writing_end : left ≡ 0 → take len row ≡ get_or (rows_of ws weight) index []
    writing_end z =
        sym (append-nil (take len row)) ∙ ap (λ (l : List ℕ). take len row ++ l) (sym (ap (λ (n : ℕ). get_or (rows_of ws n) k []) z ∙ nothing_left ws k)) ∙ r.is
