-- Sets of jobs: what is in a set made by a test, and the members by their numbers. Assumes nothing.
use mathlib.Core.Path.{◌≡◌, refl, sym, ap, subst, ◌∙◌}
use mathlib.Core.Bool.{Bool, true, false, cond, true≢false}
use mathlib.Core.List.Memᴰ
use mathlib.Core.List.{List, [], ◌∷◌, ◌++◌, Memᴰ}
use mathlib.Core.Logic.{◌↔◌, ◌⊎◌, inl, inr, ⊎_elim}
use Prim.Native.Nat.{ℕ, zero, suc, ◌+◌, ◌≤◌, ◌<◌}
use native.Mathlib.Omega.{arith}
use lib.Dec.{ltb, eqb}
use lib.ListN.{length}
use borrow.Author.Tests.{ltb-true, ltb-false, lt-ltb, eqb-true, eq-eqb}
use Rattle.bpa.proofs.Basics.Cases.{by_test, or_cases, or_left, or_right, and_both, never_both}
use Rattle.bpa.proofs.Basics.Counting.{count, count_le, count_more}
use Rattle.alike.specs.Alike.{stands_in}
use Rattle.growth.specs.Growth.{rises}
use Rattle.growth.specs.Reached.{JobSet, has, members_from, members, set_from, set_of, one_of}

-- A SET MADE BY A TEST
module _ (f : ℕ → Bool) where
  set_length : (n j : ℕ) → length (set_from f n j) ≡ n
  unfolding set_from
  set_length zero j = refl
  set_length (suc n) j = ap suc (set_length n (suc j))

  pub length_of : (n : ℕ) → length (set_of f n) ≡ n
  length_of n = set_length n 0

  set_at : (n j k : ℕ) → k < n → has (set_from f n j) k ≡ f (j + k)
  unfolding set_from
  set_at zero j k h = absurd (omega arith)
  set_at (suc n) j zero h = ap f (omega arith)
  set_at (suc n) j (suc k) h = set_at n (suc j) k (omega arith) ∙ ap f (omega arith)

  set_beyond : (n j k : ℕ) → n ≤ k → has (set_from f n j) k ≡ false
  unfolding set_from
  set_beyond zero j k h = refl
  set_beyond (suc n) j zero h = absurd (omega arith)
  set_beyond (suc n) j (suc k) h = set_beyond n (suc j) k (omega arith)

  pub has_set : (n k : ℕ) → (has (set_of f n) k ≡ true) ↔ ((k < n) × (f k ≡ true))
  has_set n k = (
    (λ e.
        by_test (ltb k n) (λ l. let h = ltb-true k n l in (h, sym (at h) ∙ e))
        (λ l. absurd (never_both (has (set_of f n) k) e (set_beyond n 0 k (ltb-false k n l))))),
    (λ w. at w.0 ∙ w.1),
  )
    where
      at : k < n → has (set_of f n) k ≡ f k
      at h = set_at n 0 k h ∙ ap f (omega arith)

-- A LIST whose front stands under a test
module _ (k : ℕ) (u v : List ℕ) where
  pub cond_cases : (b : Bool) → Memᴰ k (cond b (u ++ v) v) → ((b ≡ true) × Memᴰ k u) ⊎ Memᴰ k v
  cond_cases true m = ⊎_elim (λ n. inl (refl, n)) inr (Memᴰ.append_cases u m)
  cond_cases false m = inr m

  pub cond_left : (b : Bool) → b ≡ true → Memᴰ k u → Memᴰ k (cond b (u ++ v) v)
  cond_left true e m = Memᴰ.append_left v m
  cond_left false e m = absurd (true≢false (sym e))

  pub cond_right : (b : Bool) → Memᴰ k v → Memᴰ k (cond b (u ++ v) v)
  cond_right true m = Memᴰ.append_right u m
  cond_right false m = m

-- THE MEMBERS of a set
module _ (x : ℕ) where
  -- a member stands so far behind the first job of the set
  abbrev At : (j : ℕ) → JobSet → Type 0
  At j s = (i : ℕ) × (x ≡ j + i) × (has s i ≡ true)

  member_at : (j : ℕ) (s : JobSet) → Memᴰ x (members_from j s) → At j s
  unfolding members_from
  member_at j [] m = absurd (Memᴰ.not-nil m)
  member_at j (b ∷ s) m =
      ⊎_elim (λ (w : (b ≡ true) × Memᴰ x (j ∷ [])). (0, omega (arith, Memᴰ.eq_of_singleton w.1), w.0))
      (λ n. let (i, e, h) = member_at (suc j) s n in (suc i, omega (arith, e), h))
      (cond_cases x (j ∷ []) (members_from (suc j) s) b m)

  at_member : (j : ℕ) (s : JobSet) (i : ℕ) → x ≡ j + i → has s i ≡ true → Memᴰ x (members_from j s)
  unfolding members_from
  at_member j [] i e h = absurd (true≢false (sym h))
  at_member j (b ∷ s) zero e h = cond_left x (j ∷ []) (members_from (suc j) s) b h (Memᴰ.head (omega (arith, e)))
  at_member j (b ∷ s) (suc i) e h = cond_right x (j ∷ []) (members_from (suc j) s) b (at_member (suc j) s i (omega (arith, e)) h)

  pub member_exactly : (s : JobSet) → Memᴰ x (members s) ↔ (has s x ≡ true)
  member_exactly s = (
    (λ m. let (i, e, h) = member_at 0 s m in let z : i ≡ x = omega (arith, e) in subst (λ (k : ℕ). has s k ≡ true) z h),
    (λ h. at_member 0 s x (omega arith) h),
  )

-- their numbers rise
before_all : (i : ℕ) (l : List ℕ) → ((x : ℕ) → Memᴰ x l → i < x) → rises l ≡ true → rises (i ∷ l) ≡ true
unfolding rises
before_all i [] f h = refl
before_all i (j ∷ js) f h = and_both (ltb i j) (rises (j ∷ js)) (lt-ltb i j (f j (Memᴰ.head refl))) h

pub members_rise : (j : ℕ) (s : JobSet) → rises (members_from j s) ≡ true
unfolding members_from rises
members_rise j [] = refl
members_rise j (b ∷ s) = go b (members_rise (suc j) s)
  where
    go : (b : Bool) → rises (members_from (suc j) s) ≡ true → rises (cond b (j ∷ members_from (suc j) s) (members_from (suc j) s)) ≡ true
    go true h = before_all j (members_from (suc j) s) (λ x m. let (i, e, k) = member_at x (suc j) s m in omega (arith, e)) h
    go false h = h

-- they are as many as pass the test of being in the set
count_front : (f : ℕ → Bool) (n : ℕ) →
    count f (suc n) ≡ cond (f 0) (suc (count (λ i. f (suc i)) n)) (count (λ i. f (suc i)) n)
unfolding count
count_front f zero = refl
count_front f (suc n) = go (f 0) (f (suc n)) (count f (suc n)) (count (λ i. f (suc i)) n) (count_front f n)
  where
    go : (a b : Bool) (c d : ℕ) → c ≡ cond a (suc d) d → cond b (suc c) c ≡ cond a (suc (cond b (suc d) d)) (cond b (suc d) d)
    go true true c d e = ap suc e
    go true false c d e = e
    go false true c d e = ap suc e
    go false false c d e = e

pub members_counted : (j : ℕ) (s : JobSet) → length (members_from j s) ≡ count (has s) (length s)
unfolding members_from count
members_counted j [] = refl
members_counted j (b ∷ s) = go b (members_counted (suc j) s) ∙ sym (count_front (has (b ∷ s)) (length s))
  where
    go : (b : Bool) → length (members_from (suc j) s) ≡ count (has s) (length s) →
        length (cond b (j ∷ members_from (suc j) s) (members_from (suc j) s)) ≡ cond b (suc (count (has s) (length s))) (count (has s) (length s))
    go true e = ap suc e
    go false e = e

-- if as many as there are pass, all do
pub all_pass : (f : ℕ → Bool) (n : ℕ) → n ≤ count f n → (i : ℕ) → i < n → f i ≡ true
all_pass f n h i l =
    by_test (f i) (λ e. e)
    (λ e. absurd (omega (arith, h, count_more f (λ j. true) n (λ j k g. refl) i l e refl, count_le (λ j. true) n)))

-- TESTS OVER LISTS
pub stands_member : (p : List ℕ) (j : ℕ) → (stands_in p j ≡ true) ↔ Memᴰ j p
unfolding stands_in
stands_member [] j = ((λ e. absurd (true≢false (sym e))), (λ m. absurd (Memᴰ.not-nil m)))
stands_member (i ∷ is) j = (
  (λ e.
      ⊎_elim (λ h. Memᴰ.head (sym (eqb-true i j h))) (λ h. Memᴰ.tail ((stands_member is j).0 h))
      (or_cases (eqb i j) (stands_in is j) e)),
  (λ m.
      ⊎_elim (λ (e : j ≡ i). or_left (eqb i j) (stands_in is j) (eq-eqb i j (sym e)))
      (λ n. or_right (eqb i j) (stands_in is j) ((stands_member is j).1 n)) (Memᴰ.cases_cons m)),
)

pub one_exactly : (f : ℕ → Bool) (js : List ℕ) → (one_of f js ≡ true) ↔ ((j : ℕ) × Memᴰ j js × (f j ≡ true))
unfolding one_of
one_exactly f [] = ((λ e. absurd (true≢false (sym e))), (λ w. absurd (Memᴰ.not-nil w.1)))
one_exactly f (j ∷ js) = (
  (λ e.
      ⊎_elim (λ h. (j, Memᴰ.head refl, h))
      (λ h. let (i, m, k) = (one_exactly f js).0 h in (i, Memᴰ.tail m, k)) (or_cases (f j) (one_of f js) e)),
  (λ w.
      let (i, m, k) = w in
      ⊎_elim (λ (e : i ≡ j). or_left (f j) (one_of f js) (subst (λ (x : ℕ). f x ≡ true) e k))
      (λ n. or_right (f j) (one_of f js) ((one_exactly f js).1 (i, n, k))) (Memᴰ.cases_cons m)),
)
