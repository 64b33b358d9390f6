-- The leftmost difference of two plans: what each of its three answers says. Assumes nothing.
use mathlib.Core.Path.{◌≡◌, refl, sym, ap, ◌∙◌}
use mathlib.Core.Bool.{false}
use mathlib.Core.List.{List, [], ◌∷◌, ◌++◌}
use mathlib.Core.Logic.{◌⊎◌, inl, inr, ⊎_map}
use Prim.Native.Nat.{ℕ}
use native.Mathlib.Omega.{arith}
use lib.Dec.{eqb}
use borrow.Author.Tests.{eqb-true, eqb-false, eq-eqb, ne_eqb}
use Rattle.bpa.specs.Method.{Difference, equal, ends, differ, first_difference}
use Rattle.bpa.proofs.Basics.Cases.{by_test}

-- the three answers are told apart
pub equal_not_ends : equal ≡ ends → ⊥
equal_not_ends h = let z : ◌≡◌ {A = ℕ} 0 1 = cc in omega arith

pub equal_not_differ : (x y : ℕ) → equal ≡ differ x y → ⊥
equal_not_differ x y h = let z : ◌≡◌ {A = ℕ} 0 1 = cc in omega arith

pub ends_not_differ : (x y : ℕ) → ends ≡ differ x y → ⊥
ends_not_differ x y h = let z : ◌≡◌ {A = ℕ} 0 1 = cc in omega arith

pub by_difference : {C : Type 0} (d : Difference) → (d ≡ equal → C) → (d ≡ ends → C) → ((x y : ℕ) → d ≡ differ x y → C) → C
by_difference equal f g h = f refl
by_difference ends f g h = g refl
by_difference (differ x y) f g h = h x y refl

pub difference_of_equal : (p : List ℕ) → first_difference p p ≡ equal
unfolding first_difference
difference_of_equal [] = refl
difference_of_equal (x ∷ p) = rw (eq-eqb x x refl) (difference_of_equal p)

pub equal_difference : (p q : List ℕ) → first_difference p q ≡ equal → p ≡ q
unfolding first_difference
equal_difference [] [] h = refl
equal_difference [] (y ∷ q) h = cc
equal_difference (x ∷ p) [] h = cc
equal_difference (x ∷ p) (y ∷ q) h =
    by_test (eqb x y)
    (λ e. rw (eqb-true x y e) (ap (λ l. y ∷ l) (equal_difference p q (rw e at h))))
    (λ e. absurd (equal_not_differ x y (sym (rw e at h))))

-- two plans with a common front and different jobs behind it
pub record Parted (p q : List ℕ) (x y : ℕ) : Type 0 where
  pub front : List ℕ
  pub left : List ℕ
  pub right : List ℕ
  pub left_is : p ≡ front ++ x ∷ left
  pub right_is : q ≡ front ++ y ∷ right
  pub distinct : x ≡ y → ⊥

pub parted_swap : (p q : List ℕ) (x y : ℕ) → Parted p q x y → Parted q p y x
parted_swap p q x y d = record {
  front = d.front;
  left = d.right;
  right = d.left;
  left_is = d.right_is;
  right_is = d.left_is;
  distinct = λ e. d.distinct (sym e);
}

parted_cons : (z : ℕ) (p q : List ℕ) (x y : ℕ) → Parted p q x y → Parted (z ∷ p) (z ∷ q) x y
parted_cons z p q x y d = record {
  front = z ∷ d.front;
  left = d.left;
  right = d.right;
  left_is = ap (λ l. z ∷ l) d.left_is;
  right_is = ap (λ l. z ∷ l) d.right_is;
  distinct = d.distinct;
}

parted_heads : (a b : ℕ) (p q : List ℕ) (x y : ℕ) → eqb a b ≡ false → differ a b ≡ differ x y →
    Parted (a ∷ p) (b ∷ q) x y
parted_heads a b p q x y e h =
    let l : a ≡ x = cc in
    let r : b ≡ y = cc in
    record {
      front = [];
      left = p;
      right = q;
      left_is = ap (λ z. z ∷ p) l;
      right_is = ap (λ z. z ∷ q) r;
      distinct = λ d. eqb-false a b e (l ∙ d ∙ sym r);
    }

pub differ_parts : (p q : List ℕ) (x y : ℕ) → first_difference p q ≡ differ x y → Parted p q x y
unfolding first_difference
differ_parts [] [] x y h = absurd (equal_not_differ x y h)
differ_parts [] (b ∷ q) x y h = absurd (ends_not_differ x y h)
differ_parts (a ∷ p) [] x y h = absurd (ends_not_differ x y h)
differ_parts (a ∷ p) (b ∷ q) x y h =
    by_test (eqb a b) (λ e. rw (eqb-true a b e) (parted_cons b p q x y (differ_parts p q x y (rw e at h))))
    (λ e. parted_heads a b p q x y e (rw e at h))

pub record Longer (p q : List ℕ) : Type 0 where
  pub next : ℕ
  pub more : List ℕ
  pub is : q ≡ p ++ next ∷ more

longer_cons : (z : ℕ) (p q : List ℕ) → Longer p q → Longer (z ∷ p) (z ∷ q)
longer_cons z p q l = record { next = l.next; more = l.more; is = ap (λ r. z ∷ r) l.is }

-- one of the plans ends where the other goes on
pub ends_longer : (p q : List ℕ) → first_difference p q ≡ ends → Longer p q ⊎ Longer q p
unfolding first_difference
ends_longer [] [] h = absurd (equal_not_ends h)
ends_longer [] (b ∷ q) h = inl (record { next = b; more = q; is = refl })
ends_longer (a ∷ p) [] h = inr (record { next = a; more = p; is = refl })
ends_longer (a ∷ p) (b ∷ q) h =
    by_test (eqb a b)
    (λ e. rw (eqb-true a b e) (⊎_map (longer_cons b p q) (longer_cons b q p) (ends_longer p q (rw e at h))))
    (λ e. absurd (ends_not_differ a b (sym (rw e at h))))

abbrev pub flip_sides : Difference → Difference
flip_sides equal = equal
flip_sides ends = ends
flip_sides (differ x y) = differ y x

pub difference_flip : (p q : List ℕ) → first_difference q p ≡ flip_sides (first_difference p q)
unfolding first_difference
difference_flip [] [] = refl
difference_flip [] (b ∷ q) = refl
difference_flip (a ∷ p) [] = refl
difference_flip (a ∷ p) (b ∷ q) =
    by_test (eqb a b) (λ e. rw (e, eq-eqb b a (sym (eqb-true a b e))) (difference_flip p q))
    (λ e. rw (e, ne_eqb b a (λ d. eqb-false a b e (sym d))))
