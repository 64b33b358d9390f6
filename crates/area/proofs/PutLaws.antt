-- Bytes put one behind the other are put at once. Assumes nothing.
use mathlib.Core.Path.{◌≡◌, sym, ap, ap₂, ◌∙◌}
use mathlib.Core.List.{List, [], ◌∷◌, ◌++◌, append_assoc}
use Prim.Native.Nat.{ℕ, ◌+◌, ◌≤◌, ◌<◌}
use native.Mathlib.Nat.{add-zero, zero-add}
use native.Mathlib.Numerals.{add-one}
use native.Mathlib.Omega.{arith}
use lib.ListN.{length, take, drop, set, length-append, take-append-drop}
use lib.Seq.{length-take-le, drop_at, drop-drop, set_split}
use Rattle.area.specs.Areas.{put}
use Rattle.area.proofs.Puts.{put_up_to, put_behind}

pub put_none : (i : ℕ) (xs : List ℕ) → put i [] xs ≡ xs
unfolding put
put_none i xs = ap (λ (k : ℕ). take i xs ++ drop k xs) (add-zero i) ∙ take-append-drop i xs

-- a store of one byte
pub put_one : (i v : ℕ) (xs : List ℕ) → i < length xs → put i (v ∷ []) xs ≡ set xs i v
unfolding put
put_one i v xs h = ap (λ (k : ℕ). take i xs ++ (v ∷ drop k xs)) (add-one i) ∙ sym (set_split xs i v h)

-- bytes at the front
pub put_front : (bs xs : List ℕ) → put 0 bs xs ≡ bs ++ drop (length bs) xs
unfolding put
put_front bs xs = ap (λ (k : ℕ). bs ++ drop k xs) (zero-add (length bs))

-- what stands from the bytes on
pub drop_put : (i : ℕ) (bs xs : List ℕ) → i ≤ length xs → drop i (put i bs xs) ≡ bs ++ drop (i + length bs) xs
unfolding put
drop_put i bs xs h = drop_at (take i xs) (bs ++ drop (i + length bs) xs) i (length-take-le i xs h)

pub put_put : (i : ℕ) (bs cs xs : List ℕ) → i ≤ length xs → put (i + length bs) cs (put i bs xs) ≡ put i (bs ++ cs) xs
unfolding put
put_put i bs cs xs h =
    let k = i + length bs in
    let behind : drop (k + length cs) (put i bs xs) ≡ drop (k + length cs) xs =
    sym (drop-drop (length cs) k (put i bs xs)) ∙ ap (drop (length cs)) (put_behind i bs xs h) ∙ drop-drop (length cs) k xs in
    let whole : k + length cs ≡ i + length (bs ++ cs) = omega (arith, length-append bs cs) in
    ap₂ (λ (x y : List ℕ). x ++ (cs ++ y)) (put_up_to i bs xs h) (behind ∙ ap (λ (m : ℕ). drop m xs) whole)
    ∙ append_assoc (take i xs) bs (cs ++ drop (i + length (bs ++ cs)) xs)
    ∙ ap (λ (l : List ℕ). take i xs ++ l) (sym (append_assoc bs cs (drop (i + length (bs ++ cs)) xs)))
