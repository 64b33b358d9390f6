-- The right side of a comparison: where it is read, and whether anything is left of it. Assumes nothing.
use mathlib.Core.Path.{◌≡◌}
use mathlib.Core.Bool.{Bool, true, false}
use mathlib.Core.List.{List}
use Prim.Native.Nat.{ℕ, ◌≤◌}
use lib.ListN.{length}
use Rattle.bpa.proofs.Basics.Cases.{never_both}
use Rattle.differences.specs.Sides.{side, RightEnds}

module _ (behind : Bool) (rows rest : List ℕ) where
  pub side_behind : behind ≡ true → side behind rows rest ≡ rest
  unfolding side
  side_behind b = rw b

  pub side_in_rows : behind ≡ false → side behind rows rest ≡ rows
  unfolding side
  side_in_rows b = rw b

pub ends_behind : (behind : Bool) (q rest : List ℕ) (t at end : ℕ) → end ≤ at → length q ≤ t → behind ≡ true → RightEnds behind q rest t at end
ends_behind behind q rest t at end h m b = record { row_ends = h; rows_end = m; rest_ends = λ f. absurd (never_both behind b f) }
