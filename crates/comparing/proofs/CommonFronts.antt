-- How many places two rows are equal from the front. Assumes nothing.
use mathlib.Core.Path.{◌≡◌, refl, sym, ap, ap₂, ◌∙◌}
use mathlib.Core.List.{List, [], ◌∷◌, ◌++◌}
use Prim.Native.Nat.{ℕ, ◌+◌, ◌≤◌, ◌<◌}
use native.Mathlib.Numerals.{add-one}
use native.Mathlib.Omega.{arith}
use lib.ListN.{length, get_or, take}
use lib.Seq.{take-suc, take-add}
use Rattle.area.proofs.Parts.{part}
use Rattle.rows.proofs.LentRows.{lent_places, lent_slice}
use Rattle.comparing.specs.Comparisons.{Common}

module _ (left right : List ℕ) where
  pub common_none : Common left right 0
  common_none = record { in_left = omega arith; in_right = omega arith; equal = refl }

  module _ (i : ℕ) (c : Common left right i) where
    -- n more places, as they are lent
    pub common_more : (n : ℕ) → i + n ≤ length left → i + n ≤ length right → lent_places left i n ≡ lent_places right i n → Common left right (i + n)
    common_more n a b e = record {
      in_left = a;
      in_right = b;
      equal = take-add i n left
          ∙ ap₂ ◌++◌ c.equal (part i n left ∙ sym (lent_slice left i n) ∙ e ∙ lent_slice right i n ∙ sym (part i n right))
          ∙ sym (take-add i n right);
    }

    front : (l : List ℕ) → i < length l → take (i + 1) l ≡ take i l ++ (get_or l i 0 ∷ [])
    front l h = ap (λ (n : ℕ). take n l) (add-one i) ∙ take-suc l i 0 h

    pub common_place : i < length left → i < length right → get_or left i 0 ≡ get_or right i 0 → Common left right (i + 1)
    common_place a b e = record {
      in_left = omega arith;
      in_right = omega arith;
      equal = front left a ∙ ap₂ (λ (l : List ℕ) (x : ℕ). l ++ (x ∷ [])) c.equal e ∙ sym (front right b);
    }
