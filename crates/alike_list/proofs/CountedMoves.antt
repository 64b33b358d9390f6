-- What a move counts as by the two rows of a list that does not clash is what it counts as by the list. Assumes nothing.
use mathlib.Core.Path.{◌≡◌, refl, sym, ap, ap₂, subst, ◌∙◌}
use mathlib.Core.Bool.{Bool, true, false, ◌||◌, cond, true≢false}
use mathlib.Core.List.{List, [], ◌∷◌, ◌++◌, Memᴰ}
use mathlib.Core.Logic.{⊎_elim}
use Prim.Native.Nat.{ℕ, zero, suc, ◌+◌, ◌-◌, ◌≤◌, ◌<◌}
use native.Mathlib.Omega.{arith}
use lib.Dec.{eqb}
use lib.ListN.{length, get_or, take, replicate, length-map, get_or-append}
use lib.Seq.{take-length, take-append-add}
use borrow.Author.Tests.{eqb-true}
use Rattle.bpa.proofs.Basics.Cases.{by_test, or_none}
use Rattle.alike.specs.Alike.{Pair, replace, froms, tos, stands_in, is_from, from_twice, clashes}
use Rattle.alike.proofs.ReplacedMoves.{not_from, from_pair, first_new}
use Rattle.alike.proofs.ListClashes.{place_from}
use Rattle.alike_list.specs.PairArrays.{filled_froms, filled_tos, sum_at, counts_as, HoldsPairs}
use Rattle.alike_list.proofs.FilledRows.{filled_up, filled_size, stands_filled}

sum_append : (fs ts xs ys : List ℕ) (a : ℕ) → length fs ≡ length ts → sum_at (fs ++ xs) (ts ++ ys) a ≡ sum_at fs ts a + sum_at xs ys a
unfolding sum_at
sum_append [] [] xs ys a e = omega arith
sum_append [] (t ∷ ts) xs ys a e = absurd (omega arith)
sum_append (f ∷ fs) [] xs ys a e = absurd (omega arith)
sum_append (f ∷ fs) (t ∷ ts) xs ys a e = let h = sum_append fs ts xs ys a (omega arith) in omega (arith, h)

-- zeros add nothing
sum_zeros : (fs : List ℕ) (m k a : ℕ) → sum_at fs (take m (replicate k 0)) a ≡ 0
unfolding sum_at
sum_zeros [] m k a = refl
sum_zeros (f ∷ fs) zero k a = refl
sum_zeros (f ∷ fs) (suc m) zero a = refl
sum_zeros (f ∷ fs) (suc m) (suc k) a =
    let nothing : ℕ = 0 in
    let e : cond (eqb f a) nothing 0 ≡ nothing =
    by_test (eqb f a) (λ b. ap (λ (x : Bool). cond x nothing 0) b) (λ b. ap (λ (x : Bool). cond x nothing 0) b) in
    omega (arith, e, sum_zeros fs m k a)

-- a move that is no from-move has nothing to add, and one that stands once has its to-move
sum_none : (ps : List Pair) (a : ℕ) → is_from ps a ≡ false → sum_at (froms ps) (tos ps) a ≡ 0
unfolding sum_at stands_in
sum_none [] a h = refl
sum_none (p ∷ ps) a h =
    let (e, k) = or_none (eqb p.from a) (is_from ps a) h in
    let here : cond (eqb p.from a) p.to 0 ≡ 0 = ap (λ (b : Bool). cond b p.to 0) e in
    omega (arith, here, sum_none ps a k)

sum_once : (qs ps : List Pair) (a : ℕ) → from_twice qs ps ≡ false → is_from ps a ≡ true → sum_at (froms ps) (tos ps) a ≡ replace ps a
unfolding sum_at stands_in from_twice replace
sum_once qs [] a h k = absurd (true≢false (sym k))
sum_once qs (p ∷ ps) a h k =
    let later = (or_none (is_from qs p.from) (from_twice (qs ++ (p ∷ [])) ps) h).1 in
    by_test (eqb p.from a)
    (λ e.
    let none = sum_none ps a (subst (λ (x : ℕ). is_from ps x ≡ false) (eqb-true p.from a e) (first_new qs ps p later)) in
    let here : cond (eqb p.from a) p.to 0 ≡ p.to = ap (λ (b : Bool). cond b p.to 0) e in
    let whole : cond (eqb p.from a) p.to (replace ps a) ≡ p.to = ap (λ (b : Bool). cond b p.to (replace ps a)) e in
    omega (arith, none, here, whole))
    (λ e.
    let rest = sum_once (qs ++ (p ∷ [])) ps a later (subst (λ (b : Bool). (b || is_from ps a) ≡ true) e k) in
    let here : cond (eqb p.from a) p.to 0 ≡ 0 = ap (λ (b : Bool). cond b p.to 0) e in
    let whole : cond (eqb p.from a) p.to (replace ps a) ≡ replace ps a = ap (λ (b : Bool). cond b p.to (replace ps a)) e in
    omega (arith, rest, here, whole))

-- the to-move of a pair stands in the row of to-moves
to_place : (ps : List Pair) (p : Pair) → Memᴰ p ps → (k : ℕ) × (k < length ps) × (get_or (tos ps) k 0 ≡ p.to)
to_place [] p m = absurd (mathlib.Core.List.Memᴰ.not-nil m)
to_place (q ∷ ps) p m = ⊎_elim
    (λ (e : p ≡ q). (0, omega arith, ap (λ (x : Pair). x.to) (sym e)))
    (λ (n : Memᴰ p ps). let (k, l, e) = to_place ps p n in (suc k, omega arith, e))
    (mathlib.Core.List.Memᴰ.cases_cons m)

-- the whole row of from-moves
pub froms_size : (ps : List Pair) → length ps ≤ 32 → length (filled_froms ps) ≡ 32
unfolding filled_froms
froms_size ps h = filled_size (λ (p : Pair). p.from) (get_or (froms ps) 0 0) ps h

pub stands_whole : (ps : List Pair) → 1 ≤ length ps → (a : ℕ) → stands_in (filled_froms ps) a ≡ is_from ps a
unfolding filled_froms filled_up
stands_whole ps some a =
    let whole = take-length ps in
    ap (λ (l : List Pair). stands_in (froms l ++ replicate (32 - length ps) (get_or (froms ps) 0 0)) a) (sym whole)
    ∙ stands_filled (length ps) ps (get_or (froms ps) 0 0) a (ap (λ (l : List Pair). is_from l (get_or (froms ps) 0 0)) whole ∙ place_from ps 0 some)
    ∙ ap (λ (l : List Pair). is_from l a) whole

module _ (ps : List Pair) (some : 1 ≤ length ps) (clean : clashes ps ≡ false) (n : ℕ) (within : length ps ≤ n) (few : n ≤ 32) where
  abbrev fs : List ℕ
  fs = filled_froms ps

  abbrev ts : List ℕ
  ts = filled_tos ps

  -- the sum is that of the list
  sum_filled : (a : ℕ) → sum_at (take n fs) (take n ts) a ≡ sum_at (froms ps) (tos ps) a
  unfolding filled_froms filled_tos
  sum_filled a =
      let m = 32 - length ps in
      let w = get_or (froms ps) 0 0 in
      let one = length-map ps (λ (p : Pair). p.from) in
      let other = length-map ps (λ (p : Pair). p.to) in
      let e : n ≡ length (froms ps) + (n - length ps) = omega (arith, one) in
      let d : n ≡ length (tos ps) + (n - length ps) = omega (arith, other) in
      let front : take n (froms ps ++ replicate m w) ≡ froms ps ++ take (n - length ps) (replicate m w) =
      ap (λ (j : ℕ). take j (froms ps ++ replicate m w)) e ∙ take-append-add (froms ps) (replicate m w) (n - length ps) in
      let back : take n (tos ps ++ replicate m 0) ≡ tos ps ++ take (n - length ps) (replicate m 0) =
      ap (λ (j : ℕ). take j (tos ps ++ replicate m 0)) d ∙ take-append-add (tos ps) (replicate m 0) (n - length ps) in
      ap₂ (λ (x y : List ℕ). sum_at x y a) front back
      ∙ sum_append (froms ps) (tos ps) (take (n - length ps) (replicate m w)) (take (n - length ps) (replicate m 0)) a (one ∙ sym other)
      ∙ omega (arith, sum_zeros (take (n - length ps) (replicate m w)) (n - length ps) m a)

  twice_none : from_twice [] ps ≡ false
  unfolding clashes
  twice_none = (or_none (from_twice [] ps) _ clean).0

  counted : (a : ℕ) → counts_as fs ts n a ≡ replace ps a
  unfolding counts_as
  counted a =
      ap₂ (λ (b : Bool) (v : ℕ). cond b v a) (stands_whole ps some a) (sum_filled a)
      ∙ by_test (is_from ps a)
      (λ e. ap (λ (b : Bool). cond b (sum_at (froms ps) (tos ps) a) a) e ∙ sum_once [] ps a twice_none e)
      (λ e. ap (λ (b : Bool). cond b (sum_at (froms ps) (tos ps) a) a) e ∙ sym (not_from ps a e))

  module _ (small : (k : ℕ) → get_or ts k 0 < 65536) where
    to_small : (p : Pair) → Memᴰ p ps → p.to ≤ 65535
    unfolding filled_tos
    to_small p m =
        let (k, l, e) = to_place ps p m in
        let there : k < length (tos ps) = omega (arith, length-map ps (λ (x : Pair). x.to)) in
        omega (arith, small k, get_or-append (tos ps) (replicate (32 - length ps) 0) 0 k there, e)

    sum_small : (a : ℕ) → sum_at (take n fs) (take n ts) a ≤ 65535
    sum_small a =
        by_test (is_from ps a)
        (λ e. let (p, m, f, r) = from_pair ps a e in omega (arith, sum_filled a, sum_once [] ps a twice_none e, r, to_small p m))
        (λ e. omega (arith, sum_filled a, sum_none ps a e))

    sizes : (length fs ≡ 32) × (length ts ≡ 32)
    unfolding filled_tos
    sizes = let l : length ps ≤ 32 = omega arith in (froms_size ps l, filled_size (λ (p : Pair). p.to) 0 ps l)

    -- THE ROWS OF A LIST that 13 lets pass
    pub rows_hold : HoldsPairs ps fs ts n
    rows_hold = record { arrays = record { size = sizes; inside = few; small = sum_small }; counts = counted }
