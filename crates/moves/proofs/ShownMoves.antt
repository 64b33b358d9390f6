-- The moves shown are those of the list of moves, each once and in the order of their first places. Assumes nothing.
use mathlib.Core.Path.{◌≡◌, refl, sym, ap₂, ◌∙◌, subst}
use mathlib.Core.Bool.{Bool, true, false, cond, false≢true}
use mathlib.Core.List.Memᴰ
use mathlib.Core.List.{List, [], ◌∷◌, Memᴰ}
use mathlib.Core.Logic.{◌⊎◌, inl, inr, ⊎_elim, ◌↔◌}
use Prim.Native.Nat.{ℕ, zero, suc, ◌≤◌, ◌<◌}
use native.Mathlib.Omega.{arith}
use lib.Dec.{eqb, ltb}
use borrow.Author.Tests.{eqb-true, eq-eqb, ltb-true, ltb-false}
use Rattle.bpa.specs.Plans.{Move}
use Rattle.bpa.proofs.Basics.Cases.{by_test, and_left, and_right, and_both, never_both}
use Rattle.moves.specs.Shown.{equal_plans, same_move, without, once, At, FirstAt, ByFirstPlaces}

-- the tests tell what they ask
pub plans_equal : (p q : List ℕ) → equal_plans p q ≡ true → p ≡ q
unfolding equal_plans
plans_equal [] [] e = refl
plans_equal [] (y ∷ ys) e = absurd (false≢true e)
plans_equal (x ∷ xs) [] e = absurd (false≢true e)
plans_equal (x ∷ xs) (y ∷ ys) e =
    ap₂ ◌∷◌ (eqb-true x y (and_left (eqb x y) (equal_plans xs ys) e))
    (plans_equal xs ys (and_right (eqb x y) (equal_plans xs ys) e))

pub equal_self : (p : List ℕ) → equal_plans p p ≡ true
unfolding equal_plans
equal_self [] = refl
equal_self (x ∷ xs) = and_both (eqb x x) (equal_plans xs xs) (eq-eqb x x refl) (equal_self xs)

pub one_move : (m n : Move) → same_move m n ≡ true → m ≡ n
unfolding same_move
one_move m n e =
    let a = eqb-true m.move n.move (and_left (eqb m.move n.move) (equal_plans m.rest n.rest) e) in
    let b = plans_equal m.rest n.rest (and_right (eqb m.move n.move) (equal_plans m.rest n.rest) e) in
    λ i. record { move = a i; rest = b i }

pub same_self : (m n : Move) → m ≡ n → same_move m n ≡ true
unfolding same_move
same_self m n e =
    subst (λ (x : Move). same_move m x ≡ true) e
    (and_both (eqb m.move m.move) (equal_plans m.rest m.rest) (eq-eqb m.move m.move refl) (equal_self m.rest))

-- places and members
pub at_member : (ms : List Move) (n : ℕ) (m : Move) → At ms n m → Memᴰ m ms
at_member [] n m h = absurd h
at_member (x ∷ ms) zero m h = Memᴰ.head h
at_member (x ∷ ms) (suc n) m h = Memᴰ.tail (at_member ms n m h)

pub member_at : (ms : List Move) (m : Move) → Memᴰ m ms → (n : ℕ) × At ms n m
member_at [] m h = absurd (Memᴰ.not-nil h)
member_at (x ∷ ms) m h =
    ⊎_elim (λ (e : m ≡ x). (0, e)) (λ (k : Memᴰ m ms). let (n, a) = member_at ms m k in (suc n, a)) (Memᴰ.cases_cons h)

-- a list whose first entry a test may drop
module _ (x : Move) (xs ys : List Move) (kept : (n : ℕ) (m : Move) → At xs n m → (u : ℕ) × At ys u m) where
  tested_at : (b : Bool) (n : ℕ) (m : Move) → At (cond b xs (x ∷ xs)) n m → (u : ℕ) × At (x ∷ ys) u m
  tested_at true n m h = let (u, a) = kept n m h in (suc u, a)
  tested_at false zero m h = (0, h)
  tested_at false (suc n) m h = let (u, a) = kept n m h in (suc u, a)

  module _ (m n : Move) (ordered : (i k : ℕ) → At xs i m → At xs k n → i < k → (u v : ℕ) × At ys u m × At ys v n × (u < v)) where
    tested_order : (b : Bool) (i k : ℕ) → At (cond b xs (x ∷ xs)) i m → At (cond b xs (x ∷ xs)) k n → i < k →
        (u v : ℕ) × At (x ∷ ys) u m × At (x ∷ ys) v n × (u < v)
    tested_order true i k h l s = let (u, v, a, c, r) = ordered i k h l s in (suc u, suc v, a, c, omega (arith, r))
    tested_order false zero zero h l s = absurd (omega (arith, s))
    tested_order false zero (suc k) h l s = let (v, c) = kept k n l in (0, suc v, h, c, omega arith)
    tested_order false (suc i) zero h l s = absurd (omega (arith, s))
    tested_order false (suc i) (suc k) h l s =
        let (u, v, a, c, r) = ordered i k h l (omega (arith, s)) in (suc u, suc v, a, c, omega (arith, r))

-- a list without a combination has the others, in their order, and not it
module _ (a : Move) where
  without_at : (ms : List Move) (n : ℕ) (m : Move) → At (without a ms) n m → (u : ℕ) × At ms u m
  unfolding without
  without_at [] n m h = absurd h
  without_at (x ∷ ms) n m h = tested_at x (without a ms) ms (without_at ms) (same_move a x) n m h

  without_order : (ms : List Move) (m n : Move) (i k : ℕ) → At (without a ms) i m → At (without a ms) k n → i < k →
      (u v : ℕ) × At ms u m × At ms v n × (u < v)
  unfolding without
  without_order [] m n i k h l s = absurd h
  without_order (x ∷ ms) m n i k h l s = tested_order x (without a ms) ms (without_at ms) m n (without_order ms m n) (same_move a x) i k h l s

  gone : (x : Move) (xs : List Move) → ((n : ℕ) → At xs n a → ⊥) → (b : Bool) → same_move a x ≡ b → (n : ℕ) → At (cond b xs (x ∷ xs)) n a → ⊥
  gone x xs f true e n h = f n h
  gone x xs f false e zero h = never_both (same_move a x) (same_self a x h) e
  gone x xs f false e (suc n) h = f n h

  without_it : (ms : List Move) (n : ℕ) → At (without a ms) n a → ⊥
  unfolding without
  without_it [] n h = h
  without_it (x ∷ ms) n h = gone x (without a ms) (without_it ms) (same_move a x) refl n h

  still : (x m : Move) (xs : List Move) → (b : Bool) → same_move a x ≡ b → (m ≡ a → ⊥) → (m ≡ x) ⊎ Memᴰ m xs → Memᴰ m (cond b xs (x ∷ xs))
  still x m xs true e d h = ⊎_elim (λ (q : m ≡ x). absurd (d (q ∙ sym (one_move a x e)))) (λ k. k) h
  still x m xs false e d h = ⊎_elim (λ (q : m ≡ x). Memᴰ.head q) (λ (k : Memᴰ m xs). Memᴰ.tail k) h

  without_others : (ms : List Move) (m : Move) → (m ≡ a → ⊥) → Memᴰ m ms → Memᴰ m (without a ms)
  unfolding without
  without_others [] m d h = absurd (Memᴰ.not-nil h)
  without_others (x ∷ ms) m d h =
      still x m (without a ms) (same_move a x) refl d
      (⊎_elim (λ (q : m ≡ x). inl q) (λ (k : Memᴰ m ms). inr (without_others ms m d k)) (Memᴰ.cases_cons h))

-- EACH ONCE keeps the members
once_at : (ms : List Move) (n : ℕ) (m : Move) → At (once ms) n m → (u : ℕ) × At ms u m
unfolding once
once_at [] n m h = absurd h
once_at (x ∷ ms) zero m h = (0, h)
once_at (x ∷ ms) (suc n) m h =
    let (u, a) = without_at x (once ms) n m h in
    let (v, b) = once_at ms u m a in (suc v, b)

once_has : (ms : List Move) (m : Move) → Memᴰ m ms → Memᴰ m (once ms)
unfolding once
once_has [] m h = absurd (Memᴰ.not-nil h)
once_has (x ∷ ms) m h =
    by_test (same_move m x) (λ e. Memᴰ.head (one_move m x e))
    (λ f. Memᴰ.tail (without_others x (once ms) m (λ q. never_both (same_move m x) (same_self m x q) f)
    (⊎_elim (λ (q : m ≡ x). absurd (never_both (same_move m x) (same_self m x q) f)) (once_has ms m) (Memᴰ.cases_cons h))))

pub once_members : (ms : List Move) (m : Move) → Memᴰ m (once ms) ↔ Memᴰ m ms
once_members ms m = (
  λ h.
      let (n, a) = member_at (once ms) m h in
      let (u, b) = once_at ms n m a in
      at_member ms u m b,
  once_has ms m,
)

-- the first place of a member
later : (x : Move) (ms : List Move) (m : Move) (n : ℕ) → (m ≡ x → ⊥) → FirstAt ms m n → FirstAt (x ∷ ms) m (suc n)
later x ms m n d f = record {
  stands = f.stands;
  first = from;
}
  where
    from : (k : ℕ) → At (x ∷ ms) k m → suc n ≤ k
    from zero h = absurd (d h)
    from (suc k) h = let l = f.first k h in omega arith

first_place : (ms : List Move) (m : Move) → Memᴰ m ms → (n : ℕ) × FirstAt ms m n
first_place [] m h = absurd (Memᴰ.not-nil h)
first_place (x ∷ ms) m h =
    by_test (same_move m x) (λ e. (0, record { stands = one_move m x e; first = λ k a. omega arith }))
    (λ f.
    let d : m ≡ x → ⊥ = λ q. never_both (same_move m x) (same_self m x q) f in
    let (n, p) = first_place ms m (⊎_elim (λ (q : m ≡ x). absurd (d q)) (λ k. k) (Memᴰ.cases_cons h)) in
    (suc n, later x ms m n d p))

-- FIRST PLACES RISE along the moves shown
pub once_order : (ms : List Move) → ByFirstPlaces ms (once ms)
unfolding once
once_order [] m n i k h l s = absurd h
once_order (a ∷ ms) m n zero zero h l s = absurd (omega (arith, s))
once_order (a ∷ ms) m n (suc i) zero h l s = absurd (omega (arith, s))
once_order (a ∷ ms) m n zero (suc k) h l s =
    let (u, b) = without_at a (once ms) k n l in
    let (v, c) = once_at ms u n b in
    let (y, f) = first_place ms n (at_member ms v n c) in
    let d : n ≡ a → ⊥ = λ q. without_it a (once ms) k (subst (At (without a (once ms)) k) q l) in
    (0, suc y, record { stands = h; first = λ z e. omega arith }, later a ms n y d f, omega arith)
once_order (a ∷ ms) m n (suc i) (suc k) h l s =
    let (u, v, b, c, r) = without_order a (once ms) m n i k h l (omega (arith, s)) in
    let (x, y, f, g, q) = once_order ms m n u v b c r in
    let d : m ≡ a → ⊥ = λ e. without_it a (once ms) i (subst (At (without a (once ms)) i) e h) in
    let d' : n ≡ a → ⊥ = λ e. without_it a (once ms) k (subst (At (without a (once ms)) k) e l) in
    (suc x, suc y, later a ms m x d f, later a ms n y d' g, omega (arith, q))

-- so none stands twice
not_later : (ms : List Move) (m : Move) (i k : ℕ) → At (once ms) i m → At (once ms) k m → i < k → ⊥
not_later ms m i k h l s =
    let (x, y, f, g, r) = once_order ms m m i k h l s in
    let q = g.first x f.stands in
    omega (arith, q, r)

pub once_apart : (ms : List Move) (m : Move) (i k : ℕ) → At (once ms) i m → At (once ms) k m → i ≡ k
once_apart ms m i k h l =
    by_test (ltb i k) (λ e. absurd (not_later ms m i k h l (ltb-true i k e)))
    (λ e. by_test (ltb k i) (λ f. absurd (not_later ms m k i l h (ltb-true k i f)))
    (λ f. let a = ltb-false i k e in let b = ltb-false k i f in omega arith))
