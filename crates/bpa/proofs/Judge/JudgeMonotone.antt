-- The judge holds more by a base that holds more, depends on jobs of the table only, and does not tell left from right. Assumes nothing.
use mathlib.Core.Path.{◌≡◌, refl, sym, ap, ◌∙◌}
use mathlib.Core.Bool.{true, ◌&&◌}
use mathlib.Core.List.{List}
use Prim.Native.Nat.{ℕ, zero, suc, ◌<◌}
use Rattle.bpa.specs.Plans.{Table, over}
use Rattle.bpa.specs.Norms.{Good}
use Rattle.bpa.specs.Method.{precedes, Rows, expand, grow, Difference, equal, ends, differ, first_difference, Base, itself, candidate, judge, judged}
use Rattle.bpa.specs.Bases.{OrderedPairs}
use Rattle.bpa.proofs.Basics.Cases.{by_test, and_both, same_test}
use Rattle.bpa.proofs.Basics.Order.{precedes_total, precedes_once}
use Rattle.bpa.proofs.Judge.Candidates.{Closed, candidates_closed}
use Rattle.bpa.proofs.Judge.Rows.{itself_over, RowsOver, expand_in_range}
use Rattle.bpa.proofs.Judge.Differences.{by_difference, differ_parts, flip_sides, difference_flip}
use Rattle.bpa.proofs.Judge.JudgeTurns.{judge_equal, judge_ends, judge_spent, judge_right_greater, judge_left_greater, judge_turn, judge_induction}

-- rows of the table's jobs that are equal
abbrev pub RowsAgree : Table → (e e' : Rows) → Type 0
RowsAgree t e e' = (j : ℕ) → j < t.jobs → e j ≡ e' j

module _ (t : Table) (ns : List ℕ) (c c' : ℕ → ℕ → List ℕ) (k : Closed t ns c)
    (same : OrderedPairs t ns (λ y x. c y x ≡ c' y x)) where
  grow_agree : (e e' : Rows) → RowsAgree t e e' → (y x : ℕ) → y < t.jobs →
      x < t.jobs → precedes ns x y ≡ true → RowsAgree t (grow c e y x) (grow c' e' y x)
  unfolding grow
  grow_agree e e' s y x hy hx o j l =
      rw (← same y x hy hx o, ← expand_in_range t e e' s (c y x) (k y x hy hx o), ← s j l)

  difference_agree : (e e' : Rows) → RowsAgree t e e' → (p q : List ℕ) → over t p ≡ true → over t q ≡ true →
      first_difference (expand e' p) (expand e' q) ≡ first_difference (expand e p) (expand e q)
  difference_agree e e' s p q o o' = rw (expand_in_range t e e' s p o, expand_in_range t e e' s q o')

  pub judge_monotone : (b b' : Base) → OrderedPairs t ns (λ y x. b y x ≡ true → b' y x ≡ true) →
      (n : ℕ) (e e' : Rows) → RowsOver t e → RowsAgree t e e' →
      (p q : List ℕ) → over t p ≡ true → over t q ≡ true →
      judge ns c b n e p q ≡ true → judge ns c' b' n e' p q ≡ true
  judge_monotone b b' m n e e' r s p q o o' h =
      judge_induction t ns c k b p q o o' (λ n e. (e' : Rows) → RowsAgree t e e' → judge ns c' b' n e' p q ≡ true)
      (λ n e r d e' s. judge_equal ns c' b' e' p q n (difference_agree e e' s p q o o' ∙ d))
      (λ n e r x y d u l i e' s.
      judge_turn t ns c' b' e' p q n x y (difference_agree e e' s p q o o' ∙ d) u ∙
      and_both (b' u.greater u.lesser) (judge ns c' b' n (grow c' e' u.greater u.lesser) p q)
      (m u.greater u.lesser u.greater_job u.lesser_job u.order l)
      (i (grow c' e' u.greater u.lesser)
      (grow_agree e e' s u.greater u.lesser u.greater_job u.lesser_job u.order))) n e r h e' s

module _ (t : Table) (ns : List ℕ) (c c' : ℕ → ℕ → List ℕ) (k : Closed t ns c)
    (same : OrderedPairs t ns (λ y x. c y x ≡ c' y x)) where
  -- the judge depends on candidates, pairs and rows of the table's jobs only
  pub judge_in_range : (b b' : Base) → OrderedPairs t ns (λ y x. b y x ≡ b' y x) → (n : ℕ) (e e' : Rows) →
      RowsOver t e → RowsAgree t e e' → (p q : List ℕ) → over t p ≡ true → over t q ≡ true →
      judge ns c b n e p q ≡ judge ns c' b' n e' p q
  judge_in_range b b' m n e e' r s p q o o' =
      same_test (judge ns c b n e p q) (judge ns c' b' n e' p q)
      (judge_monotone t ns c c' k same b b' (λ y x hy hx l h. rw (m y x hy hx l) at h) n e e' r s p q o o')
      (judge_monotone t ns c' c (λ y x hy hx l. rw (same y x hy hx l) at (k y x hy hx l))
      (λ y x hy hx l. sym (same y x hy hx l)) b' b (λ y x hy hx l h. rw (m y x hy hx l) h) n e' e
      (λ j l. rw (s j l) at (r j l)) (λ j l. sym (s j l)) p q o o')

module _ (ns : List ℕ) (c : ℕ → ℕ → List ℕ) (b : Base) where
  difference_flipped : (e : Rows) (p q : List ℕ) (a : Difference) → first_difference (expand e p) (expand e q) ≡ a →
      first_difference (expand e q) (expand e p) ≡ flip_sides a
  difference_flipped e p q a d = difference_flip (expand e p) (expand e q) ∙ ap flip_sides d

  symmetric_turn : (n : ℕ) (e : Rows) (p q : List ℕ) →
      ((x y : ℕ) → first_difference (expand e p) (expand e q) ≡ differ x y → judge ns c b n e p q ≡ judge ns c b n e q p) →
      judge ns c b n e p q ≡ judge ns c b n e q p
  symmetric_turn n e p q f =
      by_difference (first_difference (expand e p) (expand e q))
      (λ d. judge_equal ns c b e p q n d ∙ sym (judge_equal ns c b e q p n (difference_flipped e p q equal d)))
      (λ d. judge_ends ns c b e p q n d ∙ sym (judge_ends ns c b e q p n (difference_flipped e p q ends d))) f

  pub judge_symmetric : (n : ℕ) (e : Rows) (p q : List ℕ) → judge ns c b n e p q ≡ judge ns c b n e q p
  judge_symmetric zero e p q =
      symmetric_turn zero e p q
      (λ x y d. judge_spent ns c b e p q x y d ∙
      sym (judge_spent ns c b e q p y x (difference_flipped e p q (differ x y) d)))
  judge_symmetric (suc n) e p q =
      symmetric_turn (suc n) e p q
      (λ x y d.
      let d' : first_difference (expand e q) (expand e p) ≡ differ y x = difference_flipped e p q (differ x y) d in
      by_test (precedes ns x y)
      (λ o. judge_right_greater ns c b e p q n x y d o ∙
      ap (λ z. b y x && z) (judge_symmetric n (grow c e y x) p q) ∙
      sym (judge_left_greater ns c b e q p n y x d' (precedes_once ns x y o)))
      (λ o. judge_left_greater ns c b e p q n x y d o ∙
      ap (λ z. b x y && z) (judge_symmetric n (grow c e x y) p q) ∙
      sym (judge_right_greater ns c b e q p n y x d'
      (precedes_total ns x y (differ_parts (expand e p) (expand e q) x y d).distinct o))))

-- THE SAME of the judge at its start
pub judged_symmetric : (t : Table) (ns : List ℕ) (b : Base) (p q : List ℕ) → judged t ns b p q ≡ judged t ns b q p
unfolding judged
judged_symmetric t ns b p q = judge_symmetric ns (candidate t ns) b t.jobs itself p q

module _ (t : Table) (ns : List ℕ) (g : Good t ns) (b b' : Base) where
  pub judged_in_range : OrderedPairs t ns (λ y x. b y x ≡ b' y x) → (p q : List ℕ) → over t p ≡ true → over t q ≡ true →
      judged t ns b p q ≡ judged t ns b' p q
  unfolding judged
  judged_in_range m =
      judge_in_range t ns (candidate t ns) (candidate t ns) (candidates_closed t ns g) (λ y x hy hx o. refl) b b' m
      t.jobs itself itself (itself_over t) (λ j h. refl)
