-- One row of a region written anew: it is what was written, and every other row is as it was. Assumes nothing.
use mathlib.Core.Path.{◌≡◌, sym, ap, ◌∙◌}
use mathlib.Core.List.{List}
use mathlib.Core.Logic.{⊎_elim}
use Prim.Native.Nat.{ℕ, ◌+◌, ◌*◌, ◌-◌, ◌≤◌, ◌<◌}
use native.Mathlib.Nat.{eq-or-lt_of_le}
use native.Mathlib.Omega.{arith}
use lib.Dec.{ltb}
use lib.ListN.{length, get_or, take, drop, set}
use lib.Seq.{length-take-le, get_or-set_same, get_or-set_other, drop-drop, drop_at}
use borrow.Author.Tests.{ltb-true, ltb-false}
use Rattle.area.specs.Areas.{put}
use Rattle.area.proofs.Puts.{put_up_to, put_behind, take_put}
use Rattle.bpa.proofs.Basics.Cases.{by_test}
use Rattle.rows.specs.Region.{row}
use Rattle.area.proofs.Parts.{part}

module _ (lens region v : List ℕ) (y n : ℕ) (fits : 512 * y + length v ≤ length region) (e : length v ≡ n) where
  pub row_new : y < length lens → row (set lens y n) (put (512 * y) v region) y ≡ v
  unfolding row
  row_new h =
      let to : 512 * y + n ≡ 512 * y + length v = omega arith in
      ap (λ (m : ℕ). take m (drop (512 * y) (put (512 * y) v region))) (get_or-set_same lens y n 0 h)
      ∙ part (512 * y) n (put (512 * y) v region)
      ∙ ap (λ (m : ℕ). drop (512 * y) (take m (put (512 * y) v region))) to
      ∙ ap (drop (512 * y)) (put_up_to (512 * y) v region (omega arith))
      ∙ drop_at (take (512 * y) region) v (512 * y) (length-take-le (512 * y) region (omega arith))

  -- before the row, and behind it
  before : (a c : ℕ) → a + c ≤ 512 * y → take c (drop a (put (512 * y) v region)) ≡ take c (drop a region)
  before a c h =
      part a c (put (512 * y) v region) ∙ ap (drop a) (take_put (512 * y) v region fits (a + c) h) ∙ sym (part a c region)

  behind : (a : ℕ) → 512 * y + length v ≤ a → drop a (put (512 * y) v region) ≡ drop a region
  behind a h =
      let end = 512 * y + length v in
      let f : end + (a - end) ≡ a = omega arith in
      ap (λ (m : ℕ). drop m (put (512 * y) v region)) (sym f)
      ∙ sym (drop-drop (a - end) end (put (512 * y) v region))
      ∙ ap (drop (a - end)) (put_behind (512 * y) v region (omega arith))
      ∙ drop-drop (a - end) end region
      ∙ ap (λ (m : ℕ). drop m region) f

  pub row_old : (j : ℕ) → (j ≡ y → ⊥) → get_or lens j 0 ≤ 512 → n ≤ 512 → row (set lens y n) (put (512 * y) v region) j ≡ row lens region j
  unfolding row
  row_old j d l s =
      ap (λ (m : ℕ). take m (drop (512 * j) (put (512 * y) v region))) (get_or-set_other lens y j n 0 d)
      ∙ by_test (ltb j y) (λ k. before (512 * j) (get_or lens j 0) (omega (arith, ltb-true j y k)))
      (λ k.
      ⊎_elim (λ (q : y ≡ j). absurd (d (sym q)))
      (λ (q : y < j). ap (take (get_or lens j 0)) (behind (512 * j) (omega arith))) (eq-or-lt_of_le (ltb-false j y k)))
