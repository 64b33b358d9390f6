-- The bytes of a move, and what is written of them. Assumes nothing.
use mathlib.Core.Path.{◌≡◌, refl, ap, ap₂, ◌∙◌}
use mathlib.Core.Bool.{Bool, cond}
use mathlib.Core.List.{List, [], ◌∷◌, ◌++◌}
use Prim.Native.Nat.{ℕ, ◌+◌, ◌≤◌, ◌<◌}
use native.Mathlib.Omega.{arith}
use borrow.Author.Tests.{lt-ltb, le-ltb}
use lib.ListN.{length, get_or, drop, length-append, length-drop}
use Rattle.bpa.specs.Plans.{moves}
use Rattle.rules.specs.Places.{rule_at, rule_count, table_of}
use Rattle.moves.specs.Shown.{once, shown}
use Rattle.moves.specs.Moves.{move_bytes, bytes_by, IsNth}
use Rattle.area.specs.Areas.{put}
use Rattle.area.specs.Numbers.{low_first}
use Rattle.area.proofs.PutLaws.{put_put}
use Rattle.moves.proofs.MoveByRule.{moved}

pub bytes_length : (rs : List ℕ) (i : ℕ) (w : List ℕ) → length (bytes_by rs i w) ≡ 2 + (length (rule_at rs i).after + length w)
unfolding bytes_by low_first
bytes_length rs i w = let e = length-append (rule_at rs i).after w in omega arith

-- a number, the jobs after it and the jobs that wait, one behind the other
pub in_a_row : (m k : ℕ) (w waiting xs ys zs : List ℕ) → ys ≡ put 0 (low_first m) xs → zs ≡ put 2 w ys → k ≡ 2 + length w →
    put k waiting zs ≡ put 0 (low_first m ++ (w ++ waiting)) xs
unfolding low_first
in_a_row m k w waiting xs ys zs e f h =
    let h' : k ≡ 0 + length (low_first m ++ w) = omega arith in
    ap₂ (λ (i : ℕ) (l : List ℕ). put i waiting l) h'
    (f ∙ ap (put 2 w) e ∙ put_put 0 (low_first m) w xs (omega arith))
    ∙ put_put 0 (low_first m ++ w) waiting xs (omega arith)

-- an empty plan has no move
pub no_job : (n : ℕ) (rs p : List ℕ) (k : ℕ) → length p ≡ 0 → move_bytes (shown (table_of n rs) p) k ≡ []
unfolding shown moves once move_bytes
no_job n rs [] k e = refl
no_job n rs (x ∷ xs) k e = absurd (omega arith)

-- the move that was found, or none
module _ (n : ℕ) (rs p : List ℕ) (k i : ℕ) (h : 0 < length p) (f : IsNth rs (get_or p 0 0) k i) where
  pub none_found : rule_count rs ≤ i → move_bytes (shown (table_of n rs) p) k ≡ []
  none_found l = moved n rs p k i h f ∙ ap (λ (b : Bool). cond b (bytes_by rs i (drop 1 p)) []) (le-ltb i (rule_count rs) l)

  pub one_found : i < rule_count rs → move_bytes (shown (table_of n rs) p) k ≡ bytes_by rs i (drop 1 p)
  one_found l = moved n rs p k i h f ∙ ap (λ (b : Bool). cond b (bytes_by rs i (drop 1 p)) []) (lt-ltb i (rule_count rs) l)

-- its length, with the jobs behind the first
pub waiting_length : (rs : List ℕ) (i : ℕ) (p : List ℕ) → 0 < length p → length (bytes_by rs i (drop 1 p)) ≡ length p + length (rule_at rs i).after + 1
waiting_length rs i p h = omega (arith, bytes_length rs i (drop 1 p), length-drop 1 p)
