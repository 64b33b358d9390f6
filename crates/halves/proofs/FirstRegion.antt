-- The first rows in a region, written job by job. Assumes nothing.
use mathlib.Core.Path.{◌≡◌, refl, sym, subst, ap, ◌∙◌}
use mathlib.Core.Bool.{true}
use mathlib.Core.Logic.{◌⊎◌, inl, inr, ⊎_elim}
use mathlib.Core.List.{List, ◌++◌}
use Prim.Native.Nat.{ℕ, ◌+◌, ◌*◌, ◌-◌, ◌≤◌, ◌<◌}
use native.Mathlib.Nat.{eq-or-lt_of_le}
use native.Mathlib.Omega.{arith}
use lib.ListN.{length, get_or, take, drop, set, replicate, length-replicate, length-set, length-take, length-drop, get_or-replicate}
use Rattle.area.specs.Areas.{put}
use Rattle.area.proofs.Puts.{put_length, put_part}
use Rattle.bpa.specs.Method.{precedes}
use Rattle.bpa.proofs.Basics.Plans.{norm_positive}
use Rattle.rules.specs.Places.{table_of}
use Rattle.rows.specs.Region.{row}
use Rattle.rows.proofs.OneRow.{row_new, row_old}
use Rattle.facts.specs.Columns.{norms_in, order_in, jobs_in, table_by}
use Rattle.facts.specs.declared.Facts.{Facts}
use Rattle.facts.proofs.TableFacts.{tables, jobs_few, place_job, place_rises, place_of_job}
use Rattle.halves.specs.HalvesWritten.{FirstIn}
use Rattle.halves.proofs.Lengths.{length_set_each}

-- the rows of the jobs before j are copies of the first job
pub record Filling (ns : List ℕ) (first : ℕ) (lens region : List ℕ) (j : ℕ) : Type 0 where
  pub table : length lens ≡ 24
  pub size : length region ≡ 12288
  pub some : (k : ℕ) → k < 24 → 1 ≤ get_or lens k 0
  pub short : (k : ℕ) → k < 24 → get_or lens k 0 ≤ 512
  pub rows : (k : ℕ) → k < j → row lens region k ≡ replicate (get_or ns k 0) first

-- a part of n places filled with a job, as it is lent and given back
pub part_filled : (i n x : ℕ) (xs ys : List ℕ) → i + n ≤ length xs → ys ≡ replicate (length (take (i + n - i) (drop i xs))) x →
    take i xs ++ (ys ++ drop (i + n - i) (drop i xs)) ≡ put i (replicate n x) xs
part_filled i n x xs ys h e =
    let many : length (replicate n x) ≡ n = length-replicate n x in
    let room : length (take (i + n - i) (drop i xs)) ≡ n = simp (length-take, length-drop) (omega arith) in
    ap (λ (l : List ℕ). take i xs ++ (l ++ drop (i + n - i) (drop i xs))) (e ∙ ap (λ (m : ℕ). replicate m x) room)
    ∙ put_part i (replicate n x) xs (omega arith) (i + n) (omega arith)

module _ (ns : List ℕ) (first : ℕ) where
  pub filling_first : (region : List ℕ) → length region ≡ 12288 → Filling ns first (replicate 24 1) region 0
  filling_first region e =
      record {
        table = refl;
        size = e;
        some = λ k h. omega (arith, get_or-replicate {A = ℕ} 24 k 1 0 h);
        short = λ k h. omega (arith, get_or-replicate {A = ℕ} 24 k 1 0 h);
        rows = λ k h. absurd (omega arith);
      }

  pub filling_more : (lens region : List ℕ) (j n : ℕ) → j < 24 → 1 ≤ n → n ≤ 512 → n ≡ get_or ns j 0 → Filling ns first lens region j →
      Filling ns first (set lens j n) (put (512 * j) (replicate n first) region) (j + 1)
  filling_more lens region j n h a b e f =
      let v = replicate n first in
      let many : length v ≡ n = length-replicate n first in
      let fits : 512 * j + length v ≤ length region = omega (arith, f.size) in
      let inside : j < length lens = omega (arith, f.table) in
      record {
        table = length-set lens j n ∙ f.table;
        size = put_length (512 * j) v region fits ∙ f.size;
        some = λ k l. length_set_each (λ m. 1 ≤ m) lens j n inside a k (f.some k l);
        short = λ k l. length_set_each (λ m. m ≤ 512) lens j n inside b k (f.short k l);
        rows = λ k l.
            ⊎_elim
            (λ (q : k ≡ j).
            subst (λ (i : ℕ). row (set lens j n) (put (512 * j) v region) i ≡ replicate (get_or ns i 0) first) (sym q)
            (row_new lens region v j n fits many inside ∙ ap (λ (m : ℕ). replicate m first) e))
            (λ (q : k < j).
            row_old lens region v j n fits many k (λ s. omega arith) (f.short k (omega arith)) b ∙ f.rows k q)
            (eq-or-lt_of_le (omega arith));
      }

module _ (facts : Facts) where
  -- the first job in order
  pub first_job : get_or (order_in facts) 0 0 < jobs_in facts
  first_job = place_job facts 0 (omega (arith, (tables facts).list.job))

  pub norm_some : (j : ℕ) → j < jobs_in facts → 1 ≤ get_or (norms_in facts) j 0
  unfolding table_of
  norm_some j h = norm_positive (table_by facts) (norms_in facts) (tables facts).good j h

  first_least : (j : ℕ) → j < jobs_in facts →
      (j ≡ get_or (order_in facts) 0 0) ⊎ (precedes (norms_in facts) (get_or (order_in facts) 0 0) j ≡ true)
  first_least j h =
      let (i, l, e) = place_of_job facts j h in
      ⊎_elim (λ (q : 0 ≡ i). inl (sym e ∙ ap (λ (k : ℕ). get_or (order_in facts) k 0) (sym q)))
      (λ (q : 0 < i).
      inr
      (subst (λ (k : ℕ). precedes (norms_in facts) (get_or (order_in facts) 0 0) k ≡ true) e
      (place_rises facts 0 i q l)))
      (eq-or-lt_of_le (omega arith))

  pub filling_last : (lens region : List ℕ) (j : ℕ) → j ≡ jobs_in facts →
      Filling (norms_in facts) (get_or (order_in facts) 0 0) lens region j → FirstIn facts lens region
  unfolding table_of
  filling_last lens region j e f =
      let few : jobs_in facts ≤ 24 = jobs_few facts in
      record {
        within = record {
          few = few;
          table = f.table;
          size = f.size;
          some = λ k h. f.some k (omega arith);
          short = λ k h. f.short k (omega arith);
        };
        first = record {
          first = get_or (order_in facts) 0 0;
          is_job = first_job;
          least = first_least;
          rows = λ k h. f.rows k (omega arith);
        };
      }
