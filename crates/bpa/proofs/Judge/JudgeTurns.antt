-- The judge turn by turn: one equation for each turn, and the two jobs that a turn is about. Assumes nothing.
use mathlib.Core.Path.{◌≡◌, refl, sym, subst, ◌∙◌}
use mathlib.Core.Bool.{true, false, ◌&&◌, and-false}
use mathlib.Core.List.{List, ◌∷◌}
use mathlib.Core.Logic.{◌⊎◌, inl, inr}
use Prim.Native.Nat.{ℕ, zero, suc, ◌<◌}
use Rattle.bpa.specs.Plans.{Table, over}
use Rattle.bpa.specs.Method.{precedes, Rows, expand, grow, equal, ends, differ, first_difference, Base, turn, judge}
use Rattle.bpa.proofs.Basics.Plans.{over_head, over_right}
use Rattle.bpa.proofs.Basics.Cases.{by_test, and_left, and_right, never_both}
use Rattle.bpa.proofs.Basics.Order.{precedes_total, precedes_once}
use Rattle.bpa.proofs.Judge.Candidates.{Closed}
use Rattle.bpa.proofs.Judge.Rows.{RowsOver, expand_over, grow_over}
use Rattle.bpa.proofs.Judge.Differences.{by_difference, Parted, differ_parts}

module _ (ns : List ℕ) (c : ℕ → ℕ → List ℕ) (b : Base) (e : Rows) (p q : List ℕ) where
  pub judge_equal : (n : ℕ) → first_difference (expand e p) (expand e q) ≡ equal → judge ns c b n e p q ≡ true
  unfolding judge turn
  judge_equal zero h = rw h
  judge_equal (suc n) h = rw h

  pub judge_ends : (n : ℕ) → first_difference (expand e p) (expand e q) ≡ ends → judge ns c b n e p q ≡ false
  unfolding judge turn
  judge_ends zero h = rw h
  judge_ends (suc n) h = rw h

  pub judge_spent : (x y : ℕ) → first_difference (expand e p) (expand e q) ≡ differ x y → judge ns c b 0 e p q ≡ false
  unfolding judge turn
  judge_spent x y h =
      by_test (precedes ns x y) (λ o. rw (h, o) (and-false (b y x))) (λ o. rw (h, o) (and-false (b x y)))

  pub judge_right_greater : (n x y : ℕ) → first_difference (expand e p) (expand e q) ≡ differ x y →
      precedes ns x y ≡ true → judge ns c b (suc n) e p q ≡ (b y x && judge ns c b n (grow c e y x) p q)
  unfolding judge turn
  judge_right_greater n x y h o = rw (h, o)

  pub judge_left_greater : (n x y : ℕ) → first_difference (expand e p) (expand e q) ≡ differ x y →
      precedes ns x y ≡ false → judge ns c b (suc n) e p q ≡ (b x y && judge ns c b n (grow c e x y) p q)
  unfolding judge turn
  judge_left_greater n x y h o = rw (h, o)

-- the greater and the lesser of the two jobs in which two rows differ
pub record Turn (t : Table) (ns p q : List ℕ) (x y : ℕ) : Type 0 where
  pub parts : Parted p q x y
  pub greater : ℕ
  pub lesser : ℕ
  pub greater_job : greater < t.jobs
  pub lesser_job : lesser < t.jobs
  pub order : precedes ns lesser greater ≡ true
  pub sides : ((lesser ≡ x) × (greater ≡ y)) ⊎ ((lesser ≡ y) × (greater ≡ x))

pub turn_of : (t : Table) (ns p q : List ℕ) (x y : ℕ) → over t p ≡ true → over t q ≡ true →
    first_difference p q ≡ differ x y → Turn t ns p q x y
turn_of t ns p q x y o o' h =
    by_test (precedes ns x y)
    (λ k. record {
      parts = d;
      greater = y;
      lesser = x;
      greater_job = right;
      lesser_job = left;
      order = k;
      sides = inl (refl, refl);
    })
    (λ k. record {
      parts = d;
      greater = x;
      lesser = y;
      greater_job = left;
      lesser_job = right;
      order = precedes_total ns x y d.distinct k;
      sides = inr (refl, refl);
    })
  where
    d : Parted p q x y
    d = differ_parts p q x y h

    left : x < t.jobs
    left = over_head t x d.left (over_right t d.front (x ∷ d.left) (subst (λ l. over t l ≡ true) d.left_is o))

    right : y < t.jobs
    right =
        over_head t y d.right (over_right t d.front (y ∷ d.right) (subst (λ l. over t l ≡ true) d.right_is o'))

pub judge_turn : (t : Table) (ns : List ℕ) (c : ℕ → ℕ → List ℕ) (b : Base) (e : Rows) (p q : List ℕ) (n x y : ℕ) →
    first_difference (expand e p) (expand e q) ≡ differ x y → {p' q' : List ℕ} (u : Turn t ns p' q' x y) →
    judge ns c b (suc n) e p q ≡ (b u.greater u.lesser && judge ns c b n (grow c e u.greater u.lesser) p q)
judge_turn t ns c b e p q n x y h u = by_side u.sides
  where
    Goal : (y x : ℕ) → Type 0
    Goal y x = judge ns c b (suc n) e p q ≡ (b y x && judge ns c b n (grow c e y x) p q)

    by_side : ((u.lesser ≡ x) × (u.greater ≡ y)) ⊎ ((u.lesser ≡ y) × (u.greater ≡ x)) → Goal u.greater u.lesser
    by_side (inl (l, g)) = rw (l, g) (judge_right_greater ns c b e p q n x y h (rw (l, g) at u.order))
    by_side (inr (l, g)) =
        rw (l, g) (judge_left_greater ns c b e p q n x y h (precedes_once ns y x (rw (l, g) at u.order)))

-- INDUCTION over the turns of a judge that says the same
module _ (t : Table) (ns : List ℕ) (c : ℕ → ℕ → List ℕ) (k : Closed t ns c) (b : Base) (p q : List ℕ)
    (o : over t p ≡ true) (o' : over t q ≡ true) (P : (fuel : ℕ) → Rows → Type 0)
    (no_turn : (n : ℕ) (e : Rows) → RowsOver t e → first_difference (expand e p) (expand e q) ≡ equal → P n e)
    (one_turn : (n : ℕ) (e : Rows) → RowsOver t e → (x y : ℕ) →
    first_difference (expand e p) (expand e q) ≡ differ x y → (u : Turn t ns (expand e p) (expand e q) x y) →
    b u.greater u.lesser ≡ true → P n (grow c e u.greater u.lesser) → P (suc n) e) where
  pub judge_induction : (n : ℕ) (e : Rows) → RowsOver t e → judge ns c b n e p q ≡ true → P n e
  judge_induction zero e r h =
      by_difference (first_difference (expand e p) (expand e q)) (no_turn zero e r)
      (λ d. absurd (never_both (judge ns c b 0 e p q) h (judge_ends ns c b e p q 0 d)))
      (λ x y d. absurd (never_both (judge ns c b 0 e p q) h (judge_spent ns c b e p q x y d)))
  judge_induction (suc n) e r h =
      by_difference (first_difference (expand e p) (expand e q)) (no_turn (suc n) e r)
      (λ d. absurd (never_both (judge ns c b (suc n) e p q) h (judge_ends ns c b e p q (suc n) d)))
      (λ x y d.
      let u : Turn t ns (expand e p) (expand e q) x y =
      turn_of t ns (expand e p) (expand e q) x y (expand_over t e r p o) (expand_over t e r q o') d in
      let e' : Rows = grow c e u.greater u.lesser in
      let h' : (b u.greater u.lesser && judge ns c b n e' p q) ≡ true =
      sym (judge_turn t ns c b e p q n x y d u) ∙ h in
      one_turn n e r x y d u (and_left (b u.greater u.lesser) (judge ns c b n e' p q) h')
      (judge_induction n e'
      (grow_over t c e r u.greater u.lesser (k u.greater u.lesser u.greater_job u.lesser_job u.order) u.lesser_job)
      (and_right (b u.greater u.lesser) (judge ns c b n e' p q) h')))
