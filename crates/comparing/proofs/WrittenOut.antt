-- A plan written out row by row at the front of an area. Assumes nothing.
use mathlib.Core.Path.{◌≡◌, refl, sym, ap, ◌∙◌}
use mathlib.Core.List.{List, [], ◌++◌, append_assoc, append-nil}
use Prim.Native.Nat.{ℕ, ◌+◌, ◌≤◌, ◌<◌}
use native.Mathlib.Omega.{arith}
use lib.ListN.{length, get_or, take, drop, length-append}
use Rattle.area.specs.Areas.{put}
use Rattle.area.proofs.Puts.{put_part_front}
use Rattle.bpa.specs.Method.{Rows, expand}
use Rattle.rows.proofs.Parts.{expand_at, expand_end}
use Rattle.comparing.specs.Comparisons.{WrittenOut}

-- n bytes are copied: the first `len` of them stand at their place, and what stands before it is as it was
pub copied_front : (from area : List ℕ) (to len n : ℕ) → len ≤ n → n ≤ length from → to ≤ length area →
    take (to + len) (put to (take n from) area) ≡ take to area ++ take len from
copied_front from area to len n l h g = put_part_front from area 0 len n to l (omega arith) g

-- the rows of the jobs before i are written
pub record WritingOut (e : Rows) (plan after : List ℕ) (end i : ℕ) : Type 0 where
  pub left : end + length (expand e (drop i plan)) ≡ length (expand e plan)
  pub front : take end after ++ expand e (drop i plan) ≡ expand e plan

module _ (e : Rows) (plan after : List ℕ) where
  pub out_first : WritingOut e plan after 0 0
  out_first = record { left = omega arith; front = refl }

  module _ (end i : ℕ) (w : WritingOut e plan after end i) where
    pub out_last : length plan ≤ i → WrittenOut (expand e plan) end after
    out_last h =
        let none : expand e (drop i plan) ≡ [] = expand_end e plan i h in
        record {
          next = omega (arith, w.left, ap length none);
          output = sym (append-nil (take end after)) ∙ ap (λ (l : List ℕ). take end after ++ l) (sym none) ∙ w.front;
        }

    -- the row of the job at a place of the plan
    module _ (h : i < length plan) (row : List ℕ) (is : row ≡ e (get_or plan i 0)) where
      split : expand e (drop i plan) ≡ row ++ expand e (drop (i + 1) plan)
      split = rw is (expand_at e plan i h)

      pub out_fits : end + length row ≤ length (expand e plan)
      out_fits = omega (arith, w.left, ap length split, length-append row (expand e (drop (i + 1) plan)))

      pub out_more : (after' : List ℕ) → take (end + length row) after' ≡ take end after ++ row → WritingOut e plan after' (end + length row) (i + 1)
      out_more after' p =
          let more = expand e (drop (i + 1) plan) in
          record {
            left = omega (arith, w.left, ap length split, length-append row more);
            front = ap (λ (l : List ℕ). l ++ more) p ∙ append_assoc (take end after) row more
                ∙ ap (λ (l : List ℕ). take end after ++ l) (sym split) ∙ w.front;
          }
