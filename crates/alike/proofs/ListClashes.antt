-- A LIST CLASHES exactly if a from-move stands at two places, or a from-move is the to-move of some pair. Assumes nothing.
use mathlib.Core.Path.{◌≡◌, refl, sym, ap, subst, ◌∙◌}
use mathlib.Core.Bool.{Bool, true, false, ◌||◌, true≢false}
use mathlib.Core.List.{List, [], ◌∷◌, ◌++◌, append_assoc, append-nil, map-append}
use mathlib.Core.Logic.{◌↔◌, ◌⊎◌, inl, inr, ⊎_elim}
use Prim.Native.Nat.{ℕ, zero, suc, ◌≤◌, ◌<◌}
use native.Mathlib.Omega.{arith}
use lib.Dec.{eqb}
use lib.ListN.{length, get_or, take, length-append, length-map, get_or-append}
use lib.Seq.{get_or_at}
use borrow.Author.Tests.{eqb-true, eq-eqb}
use Rattle.bpa.proofs.Basics.Cases.{by_test, or_cases, or_left, or_right, or_none, never_both}
use Rattle.alike.specs.Alike.{Pair, stands_in, is_from, from_twice, from_as_to, clashes, froms, tos, FromTwice, FromAsTo}

-- a from-move has a place
from_place : (ps : List Pair) (a : ℕ) → is_from ps a ≡ true → (i : ℕ) × (i < length ps) × (get_or (froms ps) i 0 ≡ a)
unfolding stands_in
from_place [] a h = absurd (true≢false (sym h))
from_place (p ∷ ps) a h =
    by_test (eqb p.from a) (λ e. (0, omega arith, eqb-true p.from a e))
    (λ e. let (i, l, d) = from_place ps a (subst (λ (b : Bool). (b || is_from ps a) ≡ true) e h) in (suc i, omega arith, d))

-- and what stands at a place is one
pub place_from : (ps : List Pair) (i : ℕ) → i < length ps → is_from ps (get_or (froms ps) i 0) ≡ true
unfolding stands_in
place_from [] i l = absurd (omega arith)
place_from (p ∷ ps) zero l = or_left (eqb p.from p.from) (is_from ps p.from) (eq-eqb p.from p.from refl)
place_from (p ∷ ps) (suc i) l =
    or_right (eqb p.from (get_or (froms ps) i 0)) (is_from ps (get_or (froms ps) i 0)) (place_from ps i (omega arith))

-- places of the front of a list
front_from : (ps : List Pair) (i k : ℕ) → i < k → k ≤ length ps → is_from (take k ps) (get_or (froms ps) i 0) ≡ true
unfolding stands_in
front_from [] i k l m = absurd (omega arith)
front_from (p ∷ ps) i zero l m = absurd (omega arith)
front_from (p ∷ ps) zero (suc k) l m = or_left (eqb p.from p.from) (is_from (take k ps) p.from) (eq-eqb p.from p.from refl)
front_from (p ∷ ps) (suc i) (suc k) l m =
    or_right (eqb p.from (get_or (froms ps) i 0)) (is_from (take k ps) (get_or (froms ps) i 0)) (front_from ps i k (omega arith) (omega arith))

-- the from-move at the first place of the later of two lists, and at a place of the earlier one
module _ (qs ps : List Pair) where
  both : froms (qs ++ ps) ≡ froms qs ++ froms ps
  both = map-append (λ (p : Pair). p.from) qs ps

  at_earlier : (i : ℕ) → i < length qs → get_or (froms (qs ++ ps)) i 0 ≡ get_or (froms qs) i 0
  at_earlier i l =
      ap (λ (x : List ℕ). get_or x i 0) both ∙ get_or-append (froms qs) (froms ps) 0 i (omega (arith, length-map qs (λ (p : Pair). p.from)))

at_later : (qs ps : List Pair) (p : Pair) → get_or (froms (qs ++ (p ∷ ps))) (length qs) 0 ≡ p.from
at_later qs ps p =
    ap (λ (x : List ℕ). get_or x (length qs) 0) (both qs (p ∷ ps))
    ∙ get_or_at (froms qs) p.from (froms ps) 0 (length qs) (length-map qs (λ (x : Pair). x.from))

-- WHAT THE TEST FINDS stands twice
twice_found : (qs ps : List Pair) → from_twice qs ps ≡ true → FromTwice (qs ++ ps)
unfolding from_twice
twice_found qs [] h = absurd (true≢false (sym h))
twice_found qs (p ∷ ps) h = ⊎_elim
    (λ (e : is_from qs p.from ≡ true).
    let (i, l, d) = from_place qs p.from e in
    (i, length qs, l, omega (arith, length-append qs (p ∷ ps)), at_earlier qs (p ∷ ps) i l ∙ d ∙ sym (at_later qs ps p)))
    (λ (e : from_twice (qs ++ (p ∷ [])) ps ≡ true). subst FromTwice (append_assoc qs (p ∷ []) ps) (twice_found (qs ++ (p ∷ [])) ps e))
    (or_cases (is_from qs p.from) (from_twice (qs ++ (p ∷ [])) ps) h)

-- where it finds none, each from-move is new
new_at : (qs ps : List Pair) → from_twice qs ps ≡ false → (k : ℕ) → k < length ps → is_from (qs ++ take k ps) (get_or (froms ps) k 0) ≡ false
unfolding from_twice
new_at qs [] h k l = absurd (omega arith)
new_at qs (p ∷ ps) h zero l =
    ap (λ (x : List Pair). is_from x p.from) (append-nil qs) ∙ (or_none (is_from qs p.from) (from_twice (qs ++ (p ∷ [])) ps) h).0
new_at qs (p ∷ ps) h (suc k) l =
    ap (λ (x : List Pair). is_from x (get_or (froms ps) k 0)) (sym (append_assoc qs (p ∷ []) (take k ps)))
    ∙ new_at (qs ++ (p ∷ [])) ps (or_none (is_from qs p.from) (from_twice (qs ++ (p ∷ [])) ps) h).1 k (omega arith)

twice_exact : (ps : List Pair) → (from_twice [] ps ≡ true) ↔ FromTwice ps
twice_exact ps = (
  twice_found [] ps,
  λ (i, k, l, m, e).
      by_test (from_twice [] ps) (λ h. h)
      (λ h. absurd (never_both (is_from (take k ps) (get_or (froms ps) k 0))
      (subst (λ (a : ℕ). is_from (take k ps) a ≡ true) e (front_from ps i k l (omega arith))) (new_at [] ps h k m))),
)

-- THE SECOND TEST
to_found : (all ps : List Pair) → from_as_to all ps ≡ true → (k : ℕ) × (k < length ps) × (is_from all (get_or (tos ps) k 0) ≡ true)
unfolding from_as_to
to_found all [] h = absurd (true≢false (sym h))
to_found all (p ∷ ps) h =
    by_test (is_from all p.to) (λ e. (0, omega arith, e))
    (λ e. let (k, l, d) = to_found all ps (subst (λ (b : Bool). (b || from_as_to all ps) ≡ true) e h) in (suc k, omega arith, d))

to_told : (all ps : List Pair) (k : ℕ) → k < length ps → is_from all (get_or (tos ps) k 0) ≡ true → from_as_to all ps ≡ true
unfolding from_as_to
to_told all [] k l h = absurd (omega arith)
to_told all (p ∷ ps) zero l h = or_left (is_from all p.to) (from_as_to all ps) h
to_told all (p ∷ ps) (suc k) l h = or_right (is_from all p.to) (from_as_to all ps) (to_told all ps k (omega arith) h)

as_to_exact : (ps : List Pair) → (from_as_to ps ps ≡ true) ↔ FromAsTo ps
as_to_exact ps = (
  (λ h. let (k, l, e) = to_found ps ps h in let (i, m, d) = from_place ps (get_or (tos ps) k 0) e in (i, k, m, l, d)),
  (λ (i, k, l, m, e). to_told ps ps k m (subst (λ (a : ℕ). is_from ps a ≡ true) e (place_from ps i l))),
)

pub clashes_exact : (ps : List Pair) → (clashes ps ≡ true) ↔ (FromTwice ps ⊎ FromAsTo ps)
unfolding clashes
clashes_exact ps = (
  (λ h. ⊎_elim (λ (e : from_twice [] ps ≡ true). inl ((twice_exact ps).0 e)) (λ (e : from_as_to ps ps ≡ true). inr ((as_to_exact ps).0 e))
      (or_cases (from_twice [] ps) (from_as_to ps ps) h)),
  (λ c. ⊎_elim (λ (x : FromTwice ps). or_left (from_twice [] ps) (from_as_to ps ps) ((twice_exact ps).1 x))
      (λ (x : FromAsTo ps). or_right (from_twice [] ps) (from_as_to ps ps) ((as_to_exact ps).1 x)) c),
)
