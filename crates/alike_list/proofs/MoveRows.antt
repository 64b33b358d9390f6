-- Rows of moves from a place on: whether a move stands in what is left, and the sum of the to-moves where it does. Assumes nothing.
use mathlib.Core.Path.{◌≡◌, sym, ap, ◌∙◌}
use mathlib.Core.Bool.{Bool, true, false, ◌||◌, cond, or-true, or-false, or_assoc}
use mathlib.Core.List.{List}
use Prim.Native.Nat.{ℕ, ◌+◌, ◌*◌, ◌≤◌, ◌<◌}
use native.Mathlib.Numerals.{add-one}
use native.Mathlib.Omega.{arith}
use lib.Dec.{eqb}
use lib.ListN.{length, get_or, take, drop, length-take, drop_of_length-le}
use lib.Seq.{drop-cons, get_or-take}
use mir.Val.{bool_byte}
use Rattle.alike.specs.Alike.{stands_in}
use Rattle.alike_list.specs.PairArrays.{sum_at, MoveArrays}

-- what was found so far, after one more test, and with what is then left
module _ (found b : Bool) {found' : Bool} where
  pub found_now : b ≡ true → found' ≡ true → found' ≡ (found || b)
  found_now e d = d ∙ sym (or-true found) ∙ ap (λ (x : Bool). found || x) (sym e)

  pub found_not : b ≡ false → found' ≡ found → found' ≡ (found || b)
  found_not e d = d ∙ sym (or-false found) ∙ ap (λ (x : Bool). found || x) (sym e)

  pub found_next : (rest : Bool) → found' ≡ (found || b) → (found' || rest) ≡ (found || (b || rest))
  found_next rest e = ap (λ (x : Bool). x || rest) e ∙ or_assoc found b rest

module _ (row : List ℕ) (k v : ℕ) where
  pub stands_next : k < length row → stands_in (drop k row) v ≡ (eqb (get_or row k 0) v || stands_in (drop (k + 1) row) v)
  unfolding stands_in
  stands_next h = rw (add-one, drop-cons row k 0)

  pub stands_end : length row ≤ k → stands_in (drop k row) v ≡ false
  unfolding stands_in
  stands_end h = ap (λ (l : List ℕ). stands_in l v) (drop_of_length-le row h)

module _ (fs ts : List ℕ) (k a : ℕ) (h : k < length fs) (l : k < length ts) (part : ℕ) where
  sum_next : part ≡ cond (eqb (get_or fs k 0) a) (get_or ts k 0) 0 →
      sum_at (drop k fs) (drop k ts) a ≡ part + sum_at (drop (k + 1) fs) (drop (k + 1) ts) a
  unfolding sum_at
  sum_next e = rw (add-one, drop-cons fs k 0 h, drop-cons ts k 0 l, e)

  -- what a place adds: its to-move, as often as the move stands there
  pub part_next : (b : Bool) → b ≡ eqb (get_or fs k 0) a → part ≡ cond b (get_or ts k 0) 0 →
      sum_at (drop k fs) (drop k ts) a ≡ part + sum_at (drop (k + 1) fs) (drop (k + 1) ts) a
  part_next b e d = sum_next (d ∙ ap (λ (x : Bool). cond x (get_or ts k 0) 0) e)

-- a test as a number, times another
times_test : (b : Bool) (t : ℕ) → bool_byte b * t ≡ cond b t 0
times_test true t = omega arith
times_test false t = omega arith

-- so many places of two arrays
module _ {froms tos : List ℕ} {n : ℕ} (m : MoveArrays froms tos n) (k a bit : ℕ) (h : k < n) (is : bit ≡ bool_byte (eqb (get_or froms k 0) a)) where
  pub place_next : sum_at (drop k (take n froms)) (drop k (take n tos)) a
      ≡ bit * get_or tos k 0 + sum_at (drop (k + 1) (take n froms)) (drop (k + 1) (take n tos)) a
  place_next =
      let b = eqb (get_or froms k 0) a in
      part_next (take n froms) (take n tos) k a (simp length-take (omega (arith, m.size.0, m.inside))) (simp length-take (omega (arith, m.size.1, m.inside)))
      (bit * get_or tos k 0) b (ap (λ (x : ℕ). eqb x a) (sym (get_or-take n froms k 0 h)))
      (ap (λ (x : ℕ). x * get_or tos k 0) is ∙ times_test b (get_or tos k 0) ∙ ap (λ (x : ℕ). cond b x 0) (sym (get_or-take n tos k 0 h)))

pub sum_end : (fs ts : List ℕ) (k a : ℕ) → length fs ≤ k → sum_at (drop k fs) (drop k ts) a ≡ 0
unfolding sum_at
sum_end fs ts k a h = ap (λ (l : List ℕ). sum_at l (drop k ts) a) (drop_of_length-le fs h)
