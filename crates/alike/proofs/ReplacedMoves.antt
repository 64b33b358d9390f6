-- What a move counts as: by a list that does not clash each from-move counts as its to-move, each other move as itself, and what a move
-- counts as counts as itself. Assumes nothing.
use mathlib.Core.Path.{◌≡◌, refl, sym, ap, subst, ◌∙◌}
use mathlib.Core.Bool.{Bool, true, false, ◌||◌, cond, or_assoc, true≢false}
use mathlib.Core.List.Memᴰ
use mathlib.Core.List.{List, [], ◌∷◌, ◌++◌, map-append, Memᴰ}
use mathlib.Core.Logic.{⊎_elim}
use Prim.Native.Nat.{ℕ}
use lib.Dec.{eqb}
use borrow.Author.Tests.{eqb-true, eq-eqb}
use Rattle.bpa.proofs.Basics.Cases.{by_test, or_left, or_none, is_false, never_both}
use Rattle.alike.specs.Alike.{Pair, replace, froms, stands_in, is_from, from_twice, from_as_to, clashes}

-- a move that is no from-move counts as itself
pub not_from : (ps : List Pair) (a : ℕ) → is_from ps a ≡ false → replace ps a ≡ a
unfolding stands_in replace
not_from [] a h = refl
not_from (p ∷ ps) a h =
    let (e, k) = or_none (eqb p.from a) (is_from ps a) h in
    ap (λ (b : Bool). cond b p.to (replace ps a)) e ∙ not_from ps a k

-- a from-move counts as the to-move of a pair whose from-move it is
pub from_pair : (ps : List Pair) (a : ℕ) → is_from ps a ≡ true → (p : Pair) × Memᴰ p ps × (p.from ≡ a) × (replace ps a ≡ p.to)
unfolding stands_in replace
from_pair [] a h = absurd (true≢false (sym h))
from_pair (q ∷ ps) a h =
    by_test (eqb q.from a)
    (λ e. (q, Memᴰ.head refl, eqb-true q.from a e, ap (λ (b : Bool). cond b q.to (replace ps a)) e))
    (λ e.
    let (p, m, f, r) = from_pair ps a (subst (λ (b : Bool). (b || is_from ps a) ≡ true) e h) in
    (p, Memᴰ.tail m, f, ap (λ (b : Bool). cond b q.to (replace ps a)) e ∙ r))

-- what stands in two rows, and from-moves of two lists
pub stands_append : (xs ys : List ℕ) (v : ℕ) → stands_in (xs ++ ys) v ≡ (stands_in xs v || stands_in ys v)
unfolding stands_in
stands_append [] ys v = refl
stands_append (x ∷ xs) ys v =
    ap (λ (b : Bool). eqb x v || b) (stands_append xs ys v) ∙ sym (or_assoc (eqb x v) (stands_in xs v) (stands_in ys v))

from_append : (ps qs : List Pair) (a : ℕ) → is_from (ps ++ qs) a ≡ (is_from ps a || is_from qs a)
from_append ps qs a = ap (λ (l : List ℕ). stands_in l a) (map-append (λ (p : Pair). p.from) ps qs) ∙ stands_append (froms ps) (froms qs) a

-- if no from-move stands twice, none of the pairs has one of the earlier ones
later_new : (qs ps : List Pair) (p : Pair) → from_twice qs ps ≡ false → Memᴰ p ps → is_from qs p.from ≡ false
unfolding from_twice
later_new qs [] p h m = absurd (Memᴰ.not-nil m)
later_new qs (q ∷ ps) p h m =
    let (e, k) = or_none (is_from qs q.from) (from_twice (qs ++ (q ∷ [])) ps) h in
    ⊎_elim (λ (d : p ≡ q). ap (λ (x : Pair). is_from qs x.from) d ∙ e)
    (λ (n : Memᴰ p ps).
    (or_none (is_from qs p.from) (is_from (q ∷ []) p.from) (sym (from_append qs (q ∷ []) p.from) ∙ later_new (qs ++ (q ∷ [])) ps p k n)).0)
    (Memᴰ.cases_cons m)

-- nor is the first of them met again
pub first_new : (qs ps : List Pair) (q : Pair) → from_twice (qs ++ (q ∷ [])) ps ≡ false → is_from ps q.from ≡ false
unfolding stands_in
first_new qs ps q h =
    is_false (is_from ps q.from)
    (λ e.
    let (p, m, f, r) = from_pair ps q.from e in
    let new = (or_none (is_from qs p.from) (is_from (q ∷ []) p.from) (sym (from_append qs (q ∷ []) p.from) ∙ later_new (qs ++ (q ∷ [])) ps p h m)).1 in
    never_both (is_from (q ∷ []) p.from) (or_left (eqb q.from p.from) false (eq-eqb q.from p.from (sym f))) new)

-- and each from-move counts as its to-move
told : (qs ps : List Pair) (p : Pair) → from_twice qs ps ≡ false → Memᴰ p ps → replace ps p.from ≡ p.to
unfolding from_twice replace stands_in
told qs [] p h m = absurd (Memᴰ.not-nil m)
told qs (q ∷ ps) p h m =
    let (e, k) = or_none (is_from qs q.from) (from_twice (qs ++ (q ∷ [])) ps) h in
    ⊎_elim
    (λ (d : p ≡ q).
    ap (λ (b : Bool). cond b q.to (replace ps p.from)) (eq-eqb q.from p.from (ap (λ (x : Pair). x.from) (sym d)))
    ∙ ap (λ (x : Pair). x.to) (sym d))
    (λ (n : Memᴰ p ps).
    let new = sym (from_append qs (q ∷ []) p.from) ∙ later_new (qs ++ (q ∷ [])) ps p k n in
    let other = (or_none (eqb q.from p.from) false (or_none (is_from qs p.from) (is_from (q ∷ []) p.from) new).1).0 in
    ap (λ (b : Bool). cond b q.to (replace ps p.from)) other ∙ told (qs ++ (q ∷ [])) ps p k n)
    (Memᴰ.cases_cons m)

-- no to-move is a from-move
to_new : (all ps : List Pair) (p : Pair) → from_as_to all ps ≡ false → Memᴰ p ps → is_from all p.to ≡ false
unfolding from_as_to
to_new all [] p h m = absurd (Memᴰ.not-nil m)
to_new all (q ∷ ps) p h m =
    let (e, k) = or_none (is_from all q.to) (from_as_to all ps) h in
    ⊎_elim (λ (d : p ≡ q). ap (λ (x : Pair). is_from all x.to) d ∙ e) (λ (n : Memᴰ p ps). to_new all ps p k n) (Memᴰ.cases_cons m)

module _ (ps : List Pair) (h : clashes ps ≡ false) where
  parts : (from_twice [] ps ≡ false) × (from_as_to ps ps ≡ false)
  unfolding clashes
  parts = or_none (from_twice [] ps) (from_as_to ps ps) h

  -- EACH PAIR of a list that does not clash: its from-move counts as its to-move, and its to-move as itself
  pub pair_replaces : (p : Pair) → Memᴰ p ps → (replace ps p.from ≡ p.to) × (replace ps p.to ≡ p.to)
  pair_replaces p m = (told [] ps p parts.0 m, not_from ps p.to (to_new ps ps p parts.1 m))

  -- ONE REPLACEMENT IS ALL THERE IS
  pub replaced_once : (a : ℕ) → replace ps (replace ps a) ≡ replace ps a
  replaced_once a =
      by_test (is_from ps a)
      (λ e. let (p, m, f, r) = from_pair ps a e in ap (replace ps) r ∙ (pair_replaces p m).1 ∙ sym r)
      (λ e. ap (replace ps) (not_from ps a e))
