-- The two bytes of a move put into a place one after the other. Assumes nothing.
use mathlib.Core.Path.{◌≡◌, sym, ap, ◌∙◌}
use mathlib.Core.List.{List, [], ◌∷◌}
use Prim.Native.Nat.{ℕ, ◌/◌, ◌%◌}
use native.Mathlib.Omega.{arith}
use lib.ListN.{length, set, length-set}
use Rattle.area.specs.Areas.{put}
use Rattle.area.proofs.PutLaws.{put_one}
use Rattle.rules.specs.Places.{with_move}

pub two_bytes : (v : ℕ) (xs : List ℕ) → length xs ≡ 8 → set (set xs 1 (v % 256)) 7 (v / 256) ≡ with_move v xs
unfolding with_move
two_bytes v xs l =
    ap (λ (y : List ℕ). set y 7 (v / 256)) (sym (put_one 1 (v % 256) xs (omega arith)))
    ∙ sym (put_one 7 (v / 256) (put 1 ((v % 256) ∷ []) xs) (omega (arith, length-set xs 1 (v % 256), ap length (put_one 1 (v % 256) xs (omega arith)))))
