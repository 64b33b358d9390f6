-- A row, places of a row, and the halves of an area, as the code lends them. Assumes nothing.
use mathlib.Core.Path.{◌≡◌, refl, ap, ◌∙◌}
use mathlib.Core.List.{List}
use Prim.Native.Nat.{ℕ, ◌+◌, ◌*◌, ◌-◌}
use native.Mathlib.Omega.{arith}
use lib.ListN.{length, get_or, take, drop, length-drop}
use lib.Seq.{slice, take_all}
use Rattle.area.proofs.Parts.{part}
use Rattle.rows.specs.Region.{row, old_half, new_half}

-- n places from the place k on
abbrev pub lent_places : (l : List ℕ) (k n : ℕ) → List ℕ
lent_places l k n = take (k + n - k) (drop k l)

abbrev pub lent : (lens region : List ℕ) → (j : ℕ) → List ℕ
lent lens region j = lent_places region (512 * j) (get_or lens j 0)

width : (k n : ℕ) → k + n - k ≡ n
width k n = omega arith

lent_take : (l : List ℕ) (k n : ℕ) → lent_places l k n ≡ take n (drop k l)
lent_take l k n = ap (λ (m : ℕ). take m (drop k l)) (width k n)

pub lent_slice : (l : List ℕ) (k n : ℕ) → lent_places l k n ≡ slice k (k + n) l
lent_slice l k n = lent_take l k n ∙ part k n l

pub row_part : (lens region : List ℕ) (j : ℕ) → lent lens region j ≡ row lens region j
unfolding row
row_part lens region j = lent_take region (512 * j) (get_or lens j 0)

-- THE TWO HALVES of an area
pub old_lent : (area : List ℕ) → take 12288 area ≡ old_half area
unfolding old_half
old_lent area = refl

pub new_lent : (area : List ℕ) → length area ≡ 24576 → take 12288 (drop 12288 area) ≡ new_half area
unfolding new_half
new_lent area h = take_all 12288 (drop 12288 area) (omega (arith, length-drop 12288 area))
