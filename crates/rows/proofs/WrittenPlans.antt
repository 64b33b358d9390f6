-- The expansion of a plan written row by row. Assumes nothing.
use mathlib.Core.Path.{◌≡◌, refl, sym, ap, ap₂, ◌∙◌}
use mathlib.Core.Bool.{true}
use mathlib.Core.List.{List, [], ◌++◌, append_assoc, append-nil}
use Prim.Native.Nat.{ℕ, ◌+◌, ◌*◌, ◌≤◌, ◌<◌}
use native.Mathlib.Omega.{arith}
use lib.ListN.{length, get_or, take, drop, length-append, length-take, length-drop, take-append-drop}
use lib.Seq.{drop-drop}
use Rattle.area.specs.Areas.{put, IsPut}
use Rattle.area.proofs.Puts.{put_up_to, put_behind, put_length}
use Rattle.bpa.specs.Plans.{all_below}
use Rattle.bpa.specs.Method.{Rows, expand}
use Rattle.bpa.proofs.Basics.JobsBelow.{below_at}
use Rattle.rows.proofs.Parts.{expand_at, expand_end}
use Rattle.rows.specs.Region.{row, Within, Readable}

pub length_row : (lens region : List ℕ) (j : ℕ) → 512 * j + get_or lens j 0 ≤ length region → length (row lens region j) ≡ get_or lens j 0
unfolding row
length_row lens region j h = simp (length-take, length-drop) (omega arith)

pub within_readable : (n : ℕ) (lens region plan : List ℕ) → Within n lens region → all_below n plan ≡ true → Readable lens region plan
within_readable n lens region plan w o =
    record {
      size = w.size;
      job = λ i h. omega (arith, w.few, below_at n plan i o h);
      short = λ i h. w.short (get_or plan i 0) (below_at n plan i o h);
    }

-- the row of the job x at a place of a plan
module _ (lens region plan : List ℕ) (r : Readable lens region plan) (i : ℕ) (h : i < length plan) (x : ℕ) (e : x ≡ get_or plan i 0) where
  pub job_small : x < 24
  job_small = omega (arith, r.job i h)

  pub row_short : get_or lens x 0 ≤ 512
  row_short = rw e (r.short i h)

  pub row_room : 512 * x + get_or lens x 0 ≤ length region
  row_room = omega (arith, r.size, job_small, row_short)

  pub row_long : length (row lens region x) ≡ get_or lens x 0
  row_long = length_row lens region x row_room

-- the rows of the jobs before i are written
pub record Writing (e : Rows) (plan before : List ℕ) (at : ℕ) (after : List ℕ) (end i : ℕ) : Type 0 where
  pub inside : i ≤ length plan
  pub left : end + length (expand e (drop i plan)) ≡ at + length (expand e plan)
  pub front : take end after ++ expand e (drop i plan) ≡ take at before ++ expand e plan
  pub behind : drop end after ≡ drop end before
  pub size : length after ≡ length before

module _ (e : Rows) (plan before : List ℕ) (at : ℕ) where
  pub writing_first : Writing e plan before at before at 0
  writing_first = record { inside = omega arith; left = refl; front = refl; behind = refl; size = refl }

  -- a row of n jobs, as it is lent, is put behind the others
  module _ (room : at + length (expand e plan) ≤ length before) (after : List ℕ) (end i : ℕ) (w : Writing e plan before at after end i)
      (h : i < length plan) (lent : List ℕ) (is : lent ≡ e (get_or plan i 0)) where
    rest : List ℕ
    rest = expand e (drop (i + 1) plan)

    split : expand e (drop i plan) ≡ lent ++ rest
    unfolding rest
    split = expand_at e plan i h ∙ ap (λ (r : List ℕ). r ++ expand e (drop (i + 1) plan)) (sym is)

    pub row_fits : end + length lent ≤ length after
    row_fits = omega (arith, w.left, w.size, ap length split, length-append lent rest)

    pub writing_more : Writing e plan before at (put end lent after) (end + length lent) (i + 1)
    unfolding rest
    writing_more =
        let r = expand e (drop (i + 1) plan) in
        record {
          inside = omega arith;
          left = omega (arith, w.left, ap length split, length-append lent r);
          front =
              ap (λ (l : List ℕ). l ++ r) (put_up_to end lent after (omega (arith, row_fits)))
              ∙ append_assoc (take end after) lent r
              ∙ ap (λ (l : List ℕ). take end after ++ l) (sym split)
              ∙ w.front;
          behind =
              put_behind end lent after (omega (arith, row_fits))
              ∙ sym (drop-drop (length lent) end after)
              ∙ ap (drop (length lent)) w.behind
              ∙ drop-drop (length lent) end before;
          size = put_length end lent after row_fits ∙ w.size;
        }

  pub writing_last : (after : List ℕ) (end i : ℕ) → length plan ≤ i → Writing e plan before at after end i →
      IsPut at (expand e plan) before end after
  unfolding put
  writing_last after end i h w =
      let none : expand e (drop i plan) ≡ [] = expand_end e plan i h in
      let to : end ≡ at + length (expand e plan) = omega (arith, w.left, ap length none) in
      let front : take end after ≡ take at before ++ expand e plan =
      sym (append-nil (take end after)) ∙ ap (λ (l : List ℕ). take end after ++ l) (sym none) ∙ w.front in
      record {
        next = to;
        output = sym (take-append-drop end after) ∙ ap₂ ◌++◌ front (w.behind ∙ ap (λ (k : ℕ). drop k before) to)
            ∙ append_assoc (take at before) (expand e plan) (drop (at + length (expand e plan)) before);
      }
