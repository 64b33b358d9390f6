-- Rows of places: what is asked of each is told by their own bytes, and row by row. Assumes nothing.
use mathlib.Core.Path.{◌≡◌, refl, sym, ap, ◌∙◌}
use mathlib.Core.Bool.{Bool, ◌&&◌, and_assoc}
use mathlib.Core.List.{List, [], ◌∷◌}
use Prim.Native.Nat.{ℕ, zero, suc, ◌+◌, ◌*◌}
use native.Mathlib.Nat.{zero-add, suc-add}
use native.Mathlib.Omega.{arith}
use lib.ListN.{take, drop}
use lib.Seq.{take-take, drop-drop, take-nil}
use Rattle.rules.specs.Places.{place_good, each_place, places_good}

pub drop_take : (m n : ℕ) (l : List ℕ) → drop m (take (m + n) l) ≡ take n (drop m l)
drop_take zero n l = rw zero-add
drop_take (suc m) n [] = rw (suc-add, take-nil n)
drop_take (suc m) n (x ∷ l) = rw suc-add (drop_take m n l)

pub each_local : (f : List ℕ → Bool) (r : ℕ) (xs ys : List ℕ) → take (8 * r) xs ≡ take (8 * r) ys → each_place f r xs ≡ each_place f r ys
unfolding each_place
each_local f zero xs ys h = refl
each_local f (suc r) xs ys h =
    let more : 8 * suc r ≡ 8 + 8 * r = omega arith in
    let first : take 8 xs ≡ take 8 ys = sym (take-take 8 (8 * suc r) xs (omega arith)) ∙ ap (take 8) h ∙ take-take 8 (8 * suc r) ys (omega arith) in
    let later : take (8 * r) (drop 8 xs) ≡ take (8 * r) (drop 8 ys) = sym (drop_take 8 (8 * r) xs) ∙ ap (drop 8) (rw more at h) ∙ drop_take 8 (8 * r) ys in
    ap (λ l. f l && each_place f r (drop 8 xs)) first ∙ ap (λ b. f (take 8 ys) && b) (each_local f r (drop 8 xs) (drop 8 ys) later)

pub each_split : (f : List ℕ → Bool) (a b : ℕ) (xs : List ℕ) → each_place f (a + b) xs ≡ (each_place f a xs && each_place f b (drop (8 * a) xs))
unfolding each_place
each_split f zero b xs = rw zero-add
each_split f (suc a) b xs =
    let next : 8 * suc a ≡ 8 + 8 * a = omega arith in
    rw (suc-add, next, ← drop-drop (8 * a) 8 xs)
    (ap (λ t. f (take 8 xs) && t) (each_split f a b (drop 8 xs)) ∙ sym (and_assoc (f (take 8 xs)) (each_place f a (drop 8 xs)) (each_place f b (drop (8 * a) (drop 8 xs)))))

-- and so for good places
pub places_local : (r n : ℕ) (xs ys : List ℕ) → take (8 * r) xs ≡ take (8 * r) ys → places_good r n xs ≡ places_good r n ys
unfolding places_good
places_local r n = each_local (place_good n) r

pub places_split : (a b n : ℕ) (xs : List ℕ) → places_good (a + b) n xs ≡ (places_good a n xs && places_good b n (drop (8 * a) xs))
unfolding places_good
places_split a b n = each_split (place_good n) a b
