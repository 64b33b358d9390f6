-- Plans that are the same are both finite or both endless. Assumes a good table.
use mathlib.Core.List.{List, [], ◌∷◌}
use mathlib.Core.Logic.{◌↔◌}
use Prim.Native.Nat.{ℕ}
use Rattle.bpa.specs.Plans.{Table, Runs, empty_run, longer_run}
use Rattle.bpa.specs.Norms.{Good}
use Rattle.bpa.specs.Bisimilar.{Bisimulation, Bisimilar}
use Rattle.bpa.proofs.Basics.Cases.{by_test}
use Rattle.bpa.proofs.Basics.Plans.{step_over}
use Rattle.bpa.proofs.Base.MethodDecides.{equivalent_bisimilar}
use Rattle.bpa.proofs.Rounds.Approximants.{approx_sym, approx_trans}
use Rattle.bpa.proofs.Rounds.Equivalence.{bisimilar_equivalent}
use Rattle.growth.specs.Growth.{Becomes, Finite, Endless}
use Rattle.growth.specs.Reached.{grows}
use Rattle.growth.proofs.GrowthExact.{not_both, endless_exactly, finite_exactly}

module _ (t : Table) (ns : List ℕ) (g : Good t ns) where
  same_back : (p q : List ℕ) → Bisimilar t p q → Bisimilar t q p
  same_back p q h =
      equivalent_bisimilar t ns g q p h.over_right h.over_left (λ n. approx_sym t n p q (bisimilar_equivalent t ns g p q h n))

  same_then : (p q r : List ℕ) → Bisimilar t p q → Bisimilar t q r → Bisimilar t p r
  same_then p q r h k =
      equivalent_bisimilar t ns g p r h.over_left k.over_right
      (λ n. approx_trans t n p q r (bisimilar_equivalent t ns g p q h n) (bisimilar_equivalent t ns g q r k n))

  -- what one becomes, the other becomes the same
  followed : {p run end : List ℕ} (q : List ℕ) → Bisimilar t p q → Runs t p run end → (r : List ℕ) × Becomes t q r × Bisimilar t end r
  unfolding Bisimulation
  followed q h (empty_run p) = (q, ([], empty_run q), h)
  followed q h (longer_run p p' a run end s r) =
      let (q', m, i) = (h.bisimulation p q h.over_left h.over_right h.related).0 a p' s in
      let k : Bisimilar t p' q' = record {
        over_left = step_over t ns g p p' a h.over_left s;
        over_right = step_over t ns g q q' a h.over_right m;
        relation = h.relation;
        bisimulation = h.bisimulation;
        related = i;
      } in
      let (r', b, e) = followed q' k r in
      (r', (a ∷ b.0, longer_run q q' a b.0 r' m b.1), e)

  finite_same : (p q : List ℕ) → Bisimilar t p q → Finite t p → Finite t q
  finite_same p q h (plans, listed) = (
    plans,
    λ r b.
        let (s, c, e) = followed p (same_back p q h) b.1 in
        let (u, m, k) = listed s c in
        (u, m, same_then r s u e k),
  )

  pub same_finite : (p q : List ℕ) → Bisimilar t p q → Finite t p ↔ Finite t q
  same_finite p q h = (finite_same p q h, finite_same q p (same_back p q h))

  endless_same : (p q : List ℕ) → Bisimilar t p q → Endless t p → Endless t q
  endless_same p q h e =
      by_test (grows t q) (λ y. (endless_exactly t ns g q h.over_right).0 y)
      (λ n. absurd (not_both t p (finite_same q p (same_back p q h) ((finite_exactly t ns g q h.over_right).0 n)) e))

  pub same_endless : (p q : List ℕ) → Bisimilar t p q → Endless t p ↔ Endless t q
  same_endless p q h = (endless_same p q h, endless_same q p (same_back p q h))
