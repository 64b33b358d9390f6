-- How far two rows may be passed over at once. Assumes nothing.
use mathlib.Core.Path.{◌≡◌, sym, ◌∙◌}
use mathlib.Core.List.{List}
use Prim.Native.Nat.{ℕ, ◌-◌, ◌≤◌}
use native.Mathlib.Nat.{add-zero}
use native.Mathlib.Omega.{arith}
use lib.Seq.{slice_empty}
use Rattle.rows.specs.Answers.{Leaps}
use Rattle.rows.proofs.LentRows.{lent_places, lent_slice}

module _ (left : List ℕ) (k stop : ℕ) (right : List ℕ) (at end : ℕ) (h : k ≤ stop) (g : at ≤ end) where
  pub no_leap : Leaps left k stop right at end 0
  no_leap = record {
    left_inside = omega arith;
    right_inside = omega arith;
    equal = rw (add-zero k, add-zero at, slice_empty k left, slice_empty at right);
  }

  pub leap_over : (n : ℕ) → n ≤ stop - k → n ≤ end - at → lent_places left k n ≡ lent_places right at n → Leaps left k stop right at end n
  leap_over n a b e = record {
    left_inside = omega arith;
    right_inside = omega arith;
    equal = sym (lent_slice left k n) ∙ e ∙ lent_slice right at n;
  }
