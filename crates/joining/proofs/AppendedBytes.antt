-- Bytes that are put behind others and then changed where they stand: as if the changed ones had been put. Assumes nothing.
use mathlib.Core.Path.{◌≡◌, sym, ap, ap₂, ◌∙◌}
use mathlib.Core.List.{List, ◌++◌}
use Prim.Native.Nat.{ℕ, ◌+◌, ◌-◌, ◌≤◌}
use native.Mathlib.Omega.{arith}
use borrow.Rule.Slice.PartMut.{put_mid}
use lib.ListN.{length, take, drop}
use lib.Seq.{take_at, drop-drop}
use Rattle.area.specs.Areas.{put}
use Rattle.area.proofs.Puts.{put_behind, take_put}
use Rattle.area.proofs.PutLaws.{drop_put}

module _ (i last : ℕ) (bytes xs : List ℕ) (fits : i + length bytes ≤ length xs) (e : last ≡ i + length bytes) where
  -- what was put stands there
  pub put_stands : take (last - i) (drop i (put i bytes xs)) ≡ bytes
  put_stands =
      let many : length bytes ≡ last - i = omega (arith, e) in
      ap (take (last - i)) (drop_put i bytes xs (omega arith)) ∙ take_at bytes (drop (i + length bytes) xs) (last - i) many

  -- and as many others in its place
  pub put_over : (new : List ℕ) → length new ≡ length bytes → put_mid i (last - i) (put i bytes xs) new ≡ put i new xs
  unfolding put
  put_over new n =
      let ys = put i bytes xs in
      let end : i + (last - i) ≡ i + length bytes = omega (arith, e) in
      let behind : drop (last - i) (drop i ys) ≡ drop (i + length new) xs =
      drop-drop (last - i) i ys ∙ ap (λ (k : ℕ). drop k ys) end ∙ put_behind i bytes xs (omega arith) ∙ ap (λ (k : ℕ). drop (i + k) xs) (sym n) in
      ap₂ (λ (a b : List ℕ). a ++ (new ++ b)) (take_put i bytes xs fits i (omega arith)) behind
