-- The test for a table without a choice of outcome is exact. Assumes nothing.
use mathlib.Core.Path.{◌≡◌, refl, sym, ap, ◌∙◌, subst}
use mathlib.Core.Bool.{Bool, true, false, not, ◌&&◌}
use mathlib.Core.List.Memᴰ
use mathlib.Core.List.{List, [], ◌∷◌, Memᴰ}
use mathlib.Core.Logic.{◌↔◌, ⊎_elim}
use Prim.Native.Nat.{ℕ}
use lib.Dec.{eqb}
use borrow.Author.Tests.{eqb-true, eq-eqb, not-true}
use Rattle.bpa.specs.Plans.{Rule, Table}
use Rattle.bpa.proofs.Basics.Cases.{by_test, and_left, and_right, and_both, or_cases, or_none, is_false, never_both}
use Rattle.moves.specs.Shown.{equal_plans}
use Rattle.moves.proofs.ShownMoves.{plans_equal, equal_self}
use Rattle.deterministic.specs.Deterministic.{Deterministic, is_choice, choice_with, choice_among, no_choice}

-- TWO RULES that are a choice, and two that are none
record Choice (r s : Rule) : Type 0 where
  job : r.job ≡ s.job
  move : r.move ≡ s.move
  other : r.after ≡ s.after → ⊥

module _ (r s : Rule) where
  abbrev heads : Bool
  heads = eqb r.job s.job && eqb r.move s.move

  abbrev rows : Bool
  rows = equal_plans r.after s.after

  choice : is_choice r s ≡ true → Choice r s
  unfolding is_choice
  choice e =
      let h = and_left heads (not rows) e in record {
        job = eqb-true r.job s.job (and_left (eqb r.job s.job) (eqb r.move s.move) h);
        move = eqb-true r.move s.move (and_right (eqb r.job s.job) (eqb r.move s.move) h);
        other = λ k.
            never_both rows (subst (λ (l : List ℕ). equal_plans r.after l ≡ true) k (equal_self r.after))
            (not-true rows (and_right heads (not rows) e));
      }

  none : is_choice r s ≡ false → r.job ≡ s.job → r.move ≡ s.move → r.after ≡ s.after
  unfolding is_choice
  none e j a =
      by_test rows (plans_equal r.after s.after)
      (λ f.
      absurd
      (never_both (is_choice r s)
      (and_both heads (not rows)
      (and_both (eqb r.job s.job) (eqb r.move s.move) (eq-eqb r.job s.job j) (eq-eqb r.move s.move a)) (ap not f)) e))

-- A LIST OF RULES: one with a choice has two rules that are one, and of another each two rules of one job and move have one row
with_one : (r : Rule) (ss : List Rule) → choice_with r ss ≡ true → (s : Rule) × Memᴰ s ss × Choice r s
unfolding choice_with
with_one r [] e = absurd (never_both false e refl)
with_one r (s ∷ ss) e =
    ⊎_elim (λ (f : is_choice r s ≡ true). (s, Memᴰ.head refl, choice r s f))
    (λ (f : choice_with r ss ≡ true). let (x, m, c) = with_one r ss f in (x, Memᴰ.tail m, c)) (or_cases (is_choice r s) (choice_with r ss) e)

with_none : (r : Rule) (ss : List Rule) → choice_with r ss ≡ false → (s : Rule) → Memᴰ s ss → r.job ≡ s.job → r.move ≡ s.move → r.after ≡ s.after
unfolding choice_with
with_none r [] e s m j a = absurd (Memᴰ.not-nil m)
with_none r (x ∷ ss) e s m j a =
    let (f, g) = or_none (is_choice r x) (choice_with r ss) e in
    ⊎_elim
    (λ (h : s ≡ x).
    none r x f (j ∙ ap (λ (y : Rule). y.job) h) (a ∙ ap (λ (y : Rule). y.move) h) ∙ ap (λ (y : Rule). y.after) (sym h))
    (λ (h : Memᴰ s ss). with_none r ss g s h j a) (Memᴰ.cases_cons m)

among_one : (rs : List Rule) → choice_among rs ≡ true → (r s : Rule) × Memᴰ r rs × Memᴰ s rs × Choice r s
unfolding choice_among
among_one [] e = absurd (never_both false e refl)
among_one (r ∷ rs) e =
    ⊎_elim
    (λ (f : choice_with r rs ≡ true). let (s, m, c) = with_one r rs f in (r, s, Memᴰ.head refl, Memᴰ.tail m, c))
    (λ (f : choice_among rs ≡ true). let (x, s, m, k, c) = among_one rs f in (x, s, Memᴰ.tail m, Memᴰ.tail k, c))
    (or_cases (choice_with r rs) (choice_among rs) e)

among_none : (rs : List Rule) → choice_among rs ≡ false → (r s : Rule) → Memᴰ r rs → Memᴰ s rs →
    r.job ≡ s.job → r.move ≡ s.move → r.after ≡ s.after
unfolding choice_among
among_none [] e r s m k j a = absurd (Memᴰ.not-nil m)
among_none (x ∷ rs) e r s m k j a =
    let (f, g) = or_none (choice_with x rs) (choice_among rs) e in
    let J : Rule → ℕ = λ y. y.job in
    let A : Rule → ℕ = λ y. y.move in
    let W : Rule → List ℕ = λ y. y.after in
    ⊎_elim
    (λ (h : r ≡ x).
    ⊎_elim (λ (l : s ≡ x). ap W (h ∙ sym l))
    (λ (l : Memᴰ s rs). ap W h ∙ with_none x rs f s l (ap J (sym h) ∙ j) (ap A (sym h) ∙ a)) (Memᴰ.cases_cons k))
    (λ (h : Memᴰ r rs).
    ⊎_elim (λ (l : s ≡ x). sym (with_none x rs f r h (ap J (sym l) ∙ sym j) (ap A (sym l) ∙ sym a)) ∙ ap W (sym l))
    (λ (l : Memᴰ s rs). among_none rs g r s h l j a) (Memᴰ.cases_cons k)) (Memᴰ.cases_cons m)

-- THE TEST IS EXACT
pub no_choice_exactly : (t : Table) → (no_choice t ≡ true) ↔ Deterministic t
unfolding no_choice
no_choice_exactly t = (
  (λ e j a v w m k.
      among_none t.rules (not-true (choice_among t.rules) e) (record { job = j; move = a; after = v }) (record { job = j; move = a; after = w })
      m k refl refl),
  (λ d.
      ap not
      (is_false (choice_among t.rules) (λ e.
      let (r, s, m, k, c) = among_one t.rules e in
      c.other (d r.job r.move r.after s.after m
      (subst (λ (x : Rule). Memᴰ x t.rules) (λ i. record { job = sym c.job i; move = sym c.move i; after = s.after }) k))))),
)
