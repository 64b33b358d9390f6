-- A part of a list, by its length and by its end, as the code lends it. Assumes nothing.
use mathlib.Core.Path.{◌≡◌, ap, ◌∙◌}
use mathlib.Core.List.{List, [], ◌∷◌}
use Prim.Native.Nat.{ℕ, zero, suc, ◌+◌, ◌-◌, ◌≤◌}
use native.Mathlib.Nat.{zero-add, suc-add}
use native.Mathlib.Omega.{arith}
use lib.ListN.{length, take, drop, length-drop}
use lib.Seq.{take-nil, take_all, slice}

pub part : (a c : ℕ) (l : List ℕ) → take c (drop a l) ≡ slice a (a + c) l
part zero c l = rw (zero-add c)
part (suc a) c [] = rw (suc-add a c) (take-nil c)
part (suc a) c (x ∷ l) = rw (suc-add a c) (part a c l)

-- from one place to another
pub middle_part : (l : List ℕ) (from to : ℕ) → from ≤ to → take (to - from) (drop from l) ≡ slice from to l
middle_part l from to h =
    let e : from + (to - from) ≡ to = omega arith in
    part from (to - from) l ∙ ap (λ (n : ℕ). slice from n l) e

-- from a place to the end
pub rest_part : (l : List ℕ) (n : ℕ) → take (length l - n) (drop n l) ≡ drop n l
rest_part l n = take_all (length l - n) (drop n l) (omega (arith, length-drop n l))
