-- Lists of pairs as bases: which pairs the first base and what a round keeps hold. Assumes nothing.
use mathlib.Core.Path.{◌≡◌, refl, ap, ap₂, sym, subst, ◌∙◌}
use mathlib.Core.Bool.{Bool, true, false, ◌&&◌, ◌||◌, cond, or_assoc, and-true, and-false, and-or_distrib_right}
use mathlib.Core.List.{List, [], ◌∷◌, ◌++◌}
use mathlib.Core.Logic.{⊎_elim}
use Prim.Native.Nat.{ℕ, zero, suc, ◌≤◌, ◌<◌}
use native.Mathlib.Omega.{arith}
use native.Mathlib.Nat.{eq-or-lt_of_le}
use lib.Dec.{eqb}
use lib.ListN.{length}
use borrow.Author.Tests.{eqb-true, eq-eqb}
use Rattle.bpa.specs.Plans.{Table}
use Rattle.bpa.specs.Method.{precedes, Pair, holds, pairs_of, pairs_below, first_base, keep_fitting}
use Rattle.bpa.proofs.Basics.Cases.{by_test, and_left, and_right, and_both, or_left, or_right}

abbrev is_pair : Pair → (y x : ℕ) → Bool
is_pair p y x = eqb p.greater y && eqb p.lesser x

pub holds_append : (ps qs : List Pair) (y x : ℕ) → holds (ps ++ qs) y x ≡ (holds ps y x || holds qs y x)
unfolding holds
holds_append [] qs y x = refl
holds_append (p ∷ ps) qs y x =
    rw (holds_append ps qs y x) (sym (or_assoc (is_pair p y x) (holds ps y x) (holds qs y x)))

-- a list whose first pair stands under a test
holds_cond : (c : Bool) (p : Pair) (ps : List Pair) (y x : ℕ) →
    holds (cond c (p ∷ ps) ps) y x ≡ (c && is_pair p y x || holds ps y x)
unfolding holds
holds_cond true p ps y x = refl
holds_cond false p ps y x = refl

-- WHAT A ROUND KEEPS
keep_one : (f : ℕ → ℕ → Bool) (p : Pair) (y x : ℕ) → (f p.greater p.lesser && is_pair p y x) ≡ (is_pair p y x && f y x)
keep_one f p y x =
    by_test (is_pair p y x)
    (λ e.
    let eg : p.greater ≡ y = eqb-true p.greater y (and_left (eqb p.greater y) (eqb p.lesser x) e) in
    let el : p.lesser ≡ x = eqb-true p.lesser x (and_right (eqb p.greater y) (eqb p.lesser x) e) in
    rw e (and-true (f p.greater p.lesser) ∙ ap₂ f eg el)) (λ e. rw e (and-false (f p.greater p.lesser)))

pub holds_keep : (f : ℕ → ℕ → Bool) (ps : List Pair) (y x : ℕ) →
    holds (keep_fitting f ps) y x ≡ (holds ps y x && f y x)
unfolding holds keep_fitting
holds_keep f [] y x = refl
holds_keep f (p ∷ ps) y x =
    holds_cond (f p.greater p.lesser) p (keep_fitting f ps) y x ∙
    ap₂ ◌||◌ (keep_one f p y x) (holds_keep f ps y x) ∙ sym (and-or_distrib_right (is_pair p y x) (holds ps y x) (f y x))

pub keep_shorter : (f : ℕ → ℕ → Bool) (ps : List Pair) → length (keep_fitting f ps) ≤ length ps
unfolding keep_fitting
keep_shorter f [] = omega arith
keep_shorter f (p ∷ ps) =
    by_test (f p.greater p.lesser) (λ e. rw e (omega (arith, keep_shorter f ps)))
    (λ e. rw e (omega (arith, keep_shorter f ps)))

-- a round that drops nothing
pub keep_all : (f : ℕ → ℕ → Bool) (ps : List Pair) → length (keep_fitting f ps) ≡ length ps → keep_fitting f ps ≡ ps
unfolding keep_fitting
keep_all f [] e = refl
keep_all f (p ∷ ps) e =
    by_test (f p.greater p.lesser)
    (λ c.
    let e' : suc (length (keep_fitting f ps)) ≡ suc (length ps) = rw c at e in
    rw c (ap (λ l. p ∷ l) (keep_all f ps (omega arith))))
    (λ c.
    let e' : length (keep_fitting f ps) ≡ suc (length ps) = rw c at e in
    absurd (omega (arith, keep_shorter f ps)))

-- THE FIRST BASE
module _ (ns : List ℕ) where
  pairs_of_holds : (y n x : ℕ) → x < n → precedes ns x y ≡ true → holds (pairs_of ns y n) y x ≡ true
  unfolding pairs_of
  pairs_of_holds y zero x l o = absurd (omega arith)
  pairs_of_holds y (suc n) x l o =
      let p : Pair = record { greater = y; lesser = n } in
      holds_cond (precedes ns n y) p (pairs_of ns y n) y x ∙
      ⊎_elim
      (λ (e : suc x ≡ suc n).
      let e' : x ≡ n = omega arith in
      or_left (precedes ns n y && is_pair p y x) (holds (pairs_of ns y n) y x)
      (and_both (precedes ns n y) (is_pair p y x) (subst (λ z. precedes ns z y ≡ true) e' o)
      (and_both (eqb y y) (eqb n x) (eq-eqb y y refl) (eq-eqb n x (sym e')))))
      (λ (k : suc x < suc n).
      or_right (precedes ns n y && is_pair p y x) (holds (pairs_of ns y n) y x) (pairs_of_holds y n x (omega arith) o))
      (eq-or-lt_of_le l)

  pairs_below_holds : (m n y x : ℕ) → y < n → x < m → precedes ns x y ≡ true → holds (pairs_below ns m n) y x ≡ true
  unfolding pairs_below
  pairs_below_holds m zero y x hy hx o = absurd (omega arith)
  pairs_below_holds m (suc n) y x hy hx o =
      holds_append (pairs_of ns n m) (pairs_below ns m n) y x ∙
      ⊎_elim
      (λ (e : suc y ≡ suc n).
      let e' : y ≡ n = omega arith in
      or_left (holds (pairs_of ns n m) y x) (holds (pairs_below ns m n) y x)
      (subst (λ z. holds (pairs_of ns z m) y x ≡ true) e' (pairs_of_holds y m x hx o)))
      (λ (k : suc y < suc n).
      or_right (holds (pairs_of ns n m) y x) (holds (pairs_below ns m n) y x)
      (pairs_below_holds m n y x (omega arith) hx o)) (eq-or-lt_of_le hy)

pub first_holds : (t : Table) (ns : List ℕ) (y x : ℕ) → y < t.jobs → x < t.jobs → precedes ns x y ≡ true →
    holds (first_base t ns) y x ≡ true
unfolding first_base
first_holds t ns y x hy hx o = pairs_below_holds ns t.jobs t.jobs y x hy hx o
