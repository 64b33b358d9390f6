-- Y, and X with a tail, that are equal by the old rows: their rows begin with the same job, and the end of Y's own row, behind as many jobs as
-- X's row has, is the old row of the tail. Assumes nothing.
use Rattle.std.proofs.Common.{◌≡◌, List, ◌∷◌, ◌++◌, ℕ, ◌+◌, ◌*◌, ◌≤◌, ◌<◌, length, get_or, take, drop, length-append, sym, ap, ◌∙◌, arith}
use lib.ListN.{get_or-append}
use lib.Seq.{slice, drop-drop, drop_at, get_or-take, get_or-drop}
use native.Mathlib.Nat.{add-zero}
use Rattle.area.proofs.Parts.{part}
use Rattle.bpa.specs.Method.{expand}
use Rattle.rows.specs.Region.{row, Within}
use Rattle.rows.proofs.WrittenPlans.{length_row}

-- a row is a part of its region, and so is its end from place m on
row_end : (lens region : List ℕ) (j m : ℕ) → slice (512 * j + m) (512 * j + get_or lens j 0) region ≡ drop m (row lens region j)
unfolding row
row_end lens region j m =
    let n = get_or lens j 0 in
    sym (drop-drop m (512 * j) (take (512 * j + n) region)) ∙ ap (drop m) (sym (part (512 * j) n region))

module _ (n : ℕ) (lens region : List ℕ) (within : Within n lens region) (y x : ℕ) (hy : y < n) (hx : x < n) (tail : List ℕ)
    (equal : row lens region y ≡ expand (row lens region) (x ∷ tail)) where
  long : (j : ℕ) → j < n → length (row lens region j) ≡ get_or lens j 0
  long j h = length_row lens region j (omega (arith, within.few, within.short j h, within.size))

  parts : row lens region y ≡ row lens region x ++ expand (row lens region) tail
  unfolding expand
  parts = equal

  front : (j : ℕ) → j < n → get_or (row lens region j) 0 0 ≡ get_or region (512 * j) 0
  unfolding row
  front j h =
      get_or-take (get_or lens j 0) (drop (512 * j) region) 0 0 (omega (arith, within.some j h)) ∙ get_or-drop (512 * j) region 0 0
      ∙ ap (λ (i : ℕ). get_or region i 0) (add-zero (512 * j))

  pub same_front : get_or region (512 * y) 0 ≡ get_or region (512 * x) 0
  same_front =
      sym (front y hy) ∙ ap (λ (r : List ℕ). get_or r 0 0) parts
      ∙ get_or-append (row lens region x) (expand (row lens region) tail) 0 0 (omega (arith, long x hx, within.some x hx))
      ∙ front x hx

  pub no_longer : get_or lens x 0 ≤ get_or lens y 0
  no_longer =
      omega (arith, long y hy, long x hx, ap length parts, length-append (row lens region x) (expand (row lens region) tail))

  pub behind_is : (from to : ℕ) → from ≡ 512 * y + get_or lens x 0 → to ≡ 512 * y + get_or lens y 0 →
      slice from to region ≡ expand (row lens region) tail
  behind_is from to from_is to_is =
      ap (λ (i : ℕ). slice i to region) from_is ∙ ap (λ (i : ℕ). slice (512 * y + get_or lens x 0) i region) to_is
      ∙ row_end lens region y (get_or lens x 0) ∙ ap (drop (get_or lens x 0)) parts
      ∙ drop_at (row lens region x) (expand (row lens region) tail) (get_or lens x 0) (long x hx)
