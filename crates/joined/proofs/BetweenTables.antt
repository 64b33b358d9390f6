-- SAMENESS BETWEEN TWO TABLES is sameness in the joined one; and plans of one side are the same there as in their own table. Assumes good tables.
use mathlib.Core.Path.{◌≡◌, sym, subst, ◌∙◌}
use mathlib.Core.Bool.{true}
use mathlib.Core.List.{List}
use mathlib.Core.Logic.{◌↔◌}
use Prim.Native.Nat.{ℕ, zero, suc}
use Rattle.bpa.specs.Plans.{Table, over}
use Rattle.bpa.specs.Norms.{norms, Good}
use Rattle.bpa.specs.Bisimilar.{Approx, Bisimulation, Bisimilar}
use Rattle.bpa.proofs.Basics.Plans.{step_over}
use Rattle.bpa.proofs.Base.MethodDecides.{equivalent_bisimilar}
use Rattle.bpa.proofs.Rounds.Approximants.{approx_sym}
use Rattle.bpa.proofs.Rounds.Equivalence.{Equivalent}
use Rattle.joined.specs.Joined.{renumbered, joined, OwnRules, BisimulationBetween, BisimilarBetween, AnyBisimulationBetween}
use Rattle.joined.proofs.RenumberedPlans.{over_left, over_right}
use Rattle.joined.proofs.JoinedNorms.{joined_good}
use Rattle.joined.proofs.JoinedSteps.{left_step, step_left, right_step, step_right, left_through, right_through}
use Rattle.joined.proofs.StepsThrough.{through_same}

-- two copies of one table, and two tables that are exchanged
pub between_copies : (t : Table) (p q : List ℕ) → BisimilarBetween t t p q ↔ Bisimilar t p q
unfolding BisimulationBetween Bisimulation
between_copies t p q = (
  (λ b. record { over_left = b.over_left; over_right = b.over_right; relation = b.relation; bisimulation = b.bisimulation; related = b.related }),
  (λ b. record { over_left = b.over_left; over_right = b.over_right; relation = b.relation; bisimulation = b.bisimulation; related = b.related }),
)

pub between_exchanged : (t u : Table) (p q : List ℕ) → BisimilarBetween t u p q → BisimilarBetween u t q p
unfolding BisimulationBetween
between_exchanged t u p q b = record {
  over_left = b.over_right;
  over_right = b.over_left;
  relation = λ y x. b.relation x y;
  bisimulation = λ y x o l h. let (f, g) = b.bisimulation x y l o h in (g, f);
  related = b.related;
}

module _ (t u : Table) (own : OwnRules t) (g : Good t (norms t)) (h : Good u (norms u)) where
  abbrev n : ℕ
  n = t.jobs

  good : Good (joined t u) (norms (joined t u))
  good = joined_good t u own g h

  -- WHATEVER RELATES the plans of two tables, they match in the joined one at every number of rounds
  pub between_approx : (R : List ℕ → List ℕ → Type 0) → AnyBisimulationBetween t u R → (p q : List ℕ) →
      over t p ≡ true → over u q ≡ true → R p q → Equivalent (joined t u) p (renumbered n q)
  unfolding AnyBisimulationBetween
  between_approx R b p q o l k zero = tt
  between_approx R b p q o l k (suc m) = (
    λ a p' s.
        let r = step_left t u p a p' o s in
        let (q', d, i) = (b p q o l k).0 a p' r in
        (renumbered n q', right_step t u q a q' d, between_approx R b p' q' (step_over t (norms t) g p p' a o r) (step_over u (norms u) h q q' a l d) i m),
    λ a r s.
        let (q', d, e) = step_right t u own q a r s in
        let (p', c, i) = (b p q o l k).1 a q' d in (
          p',
          left_step t u p a p' c,
          subst (λ (x : List ℕ). Approx (joined t u) m x p') (sym e)
              (approx_sym (joined t u) m p' (renumbered n q')
              (between_approx R b p' q' (step_over t (norms t) g p p' a o c) (step_over u (norms u) h q q' a l d) i m)),
        ),
  )

  -- SAME IN THE JOINED TABLE exactly if a bisimulation between the two tables relates them
  pub joined_between : (p q : List ℕ) → over t p ≡ true → Bisimilar (joined t u) p (renumbered n q) → BisimilarBetween t u p q
  unfolding Bisimulation BisimulationBetween
  joined_between p q o b = record {
    over_left = o;
    over_right = sym (over_right t u q) ∙ b.over_right;
    relation = λ x y. b.relation x (renumbered n y);
    bisimulation = λ x y l m k.
        let (f, c) = b.bisimulation x (renumbered n y) (over_left t u x l) (over_right t u y ∙ m) k in (
          λ a x' s.
              let (z, d, i) = f a x' (left_step t u x a x' s) in
              let (y', e, w) = step_right t u own y a z d in
              (y', e, subst (λ (v : List ℕ). b.relation x' v ≡ true) w i),
          λ a y' s. let (x', d, i) = c a (renumbered n y') (right_step t u y a y' s) in (x', step_left t u x a x' l d, i),
        );
    related = b.related;
  }

  pub between_joined : (p q : List ℕ) → BisimilarBetween t u p q → Bisimilar (joined t u) p (renumbered n q)
  unfolding BisimulationBetween AnyBisimulationBetween
  between_joined p q b =
      equivalent_bisimilar (joined t u) (norms (joined t u)) good p (renumbered n q) (over_left t u p b.over_left) (over_right t u q ∙ b.over_right)
      (between_approx (λ x y. b.relation x y ≡ true) b.bisimulation p q b.over_left b.over_right b.related)

  -- PLANS OF ONE SIDE are the same in the joined table exactly if they are in their own
  pub left_same : (p q : List ℕ) → over t p ≡ true → over t q ≡ true → Bisimilar t p q ↔ Bisimilar (joined t u) p q
  left_same =
      through_same t (joined t u) (λ p. p) (left_through t u) (norms t) (norms (joined t u)) g good

  pub right_same : (p q : List ℕ) → over u p ≡ true → over u q ≡ true → Bisimilar u p q ↔ Bisimilar (joined t u) (renumbered n p) (renumbered n q)
  right_same = through_same u (joined t u) (renumbered n) (right_through t u own) (norms u) (norms (joined t u)) h good
