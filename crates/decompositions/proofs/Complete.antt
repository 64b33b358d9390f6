-- A REFINEMENT COVERS: plans that match for every number of rounds are equal by the new rows if they are by the old ones. Assumes nothing.
use mathlib.Core.Path.{◌≡◌, sym, subst, ◌∙◌}
use mathlib.Core.Bool.{true}
use mathlib.Core.List.{List}
use Prim.Native.Nat.{ℕ, zero, suc, ◌<◌}
use native.Mathlib.Omega.{arith}
use Rattle.bpa.specs.Plans.{Table, over}
use Rattle.bpa.specs.Norms.{sum_of, Good}
use Rattle.bpa.specs.Bisimilar.{Simulates, Bisimulation, Bisimilar}
use Rattle.bpa.specs.Method.{Rows, expand}
use Rattle.bpa.proofs.Basics.Plans.{step_over}
use Rattle.bpa.proofs.Rounds.Approximants.{approx_sym}
use Rattle.bpa.proofs.Rounds.Equivalence.{Equivalent, bisimilar_equivalent, equivalent_norm}
use Rattle.bpa.proofs.Base.MethodDecides.{equivalent_bisimilar}
use Rattle.decompositions.specs.Decompositions.{Decomposition, Covers, Refines}
use Rattle.decompositions.proofs.Expansions.{decomposed_over, decomposed_norm, decomposed_primes, refined_equal}
use Rattle.decompositions.proofs.CloseSteps.{Close, Matches, matches_sym, matches_trans, matches_expansion}
use Rattle.decompositions.proofs.EqualRows.{equal_rows}

-- the steps of equivalent plans answer each other, the remainders equivalent
equivalent_simulates : (t : Table) (ns : List ℕ) → Good t ns → (p q : List ℕ) → over t p ≡ true → over t q ≡ true →
    Equivalent t p q → Simulates t (Equivalent t) p q
unfolding Bisimulation
equivalent_simulates t ns g p q o o' h a p' s =
    let b : Bisimilar t p q = equivalent_bisimilar t ns g p q o o' h in
    let (q', s', k) = (b.bisimulation p q o o' b.related).0 a p' s in (
      q',
      s',
      bisimilar_equivalent t ns g p' q' (record {
        over_left = step_over t ns g p p' a o s;
        over_right = step_over t ns g q q' a o' s';
        relation = b.relation;
        bisimulation = b.bisimulation;
        related = k;
      }),
    )

module _
    (t : Table) (ns : List ℕ) (g : Good t ns) (d e : Rows)
    (dd : Decomposition t ns d) (de : Decomposition t ns e) (cover : Covers t d) (r : Refines t ns d e) where
  -- equivalent plans of a norm below n are equal by the new rows
  abbrev Below : ℕ → Type 0
  Below n = (p q : List ℕ) → over t p ≡ true → over t q ≡ true → Equivalent t p q → sum_of ns p < n → expand e p ≡ expand e q

  equivalent_close : (n : ℕ) → Below n → (p q : List ℕ) → over t p ≡ true → over t q ≡ true → Equivalent t p q →
      Simulates t (Close ns d e n) p q
  equivalent_close n below p q o o' h a p' s =
      let (q', s', k) = equivalent_simulates t ns g p q o o' h a p' s in
      let u : over t p' ≡ true = step_over t ns g p p' a o s in
      let v : over t q' ≡ true = step_over t ns g q q' a o' s' in (
        q',
        s',
        (cover p' q' u v k, λ l. below p' q' u v k (omega (arith, decomposed_norm t ns d dd p' u))),
      )

  equivalent_matches : (n : ℕ) → Below n → (p q : List ℕ) → over t p ≡ true → over t q ≡ true → Equivalent t p q →
      Matches t ns d e n p q
  equivalent_matches n below p q o o' h = (
    equivalent_close n below p q o o' h,
    equivalent_close n below q p o' o (λ k. approx_sym t k p q (h k)),
  )

  -- so do their expansions by the new rows
  expansions_match : (p q : List ℕ) → Below (sum_of ns q) → over t p ≡ true → over t q ≡ true → Equivalent t p q →
      Matches t ns d e (sum_of ns q) (expand e p) (expand e q)
  expansions_match p q below o o' h =
      let n : ℕ = sum_of ns q in
      let m : Matches t ns d e n p (expand e p) =
      subst (λ i. Matches t ns d e i p (expand e p)) (equivalent_norm t ns g p q o o' h)
      (matches_expansion t ns g d e dd de r p o) in
      matches_trans ns d e n t (expand e p) p (expand e q) (matches_sym ns d e n t p (expand e p) m)
      (matches_trans ns d e n t p q (expand e q) (equivalent_matches n below p q o o' h)
      (matches_expansion t ns g d e dd de r q o'))

  equal_below : (n : ℕ) → Below n
  equal_below zero p q o o' h l = absurd (omega arith)
  equal_below (suc n) p q o o' h l =
      let s : sum_of ns p ≡ sum_of ns q = equivalent_norm t ns g p q o o' h in
      let nq : sum_of ns (expand e q) ≡ sum_of ns q = decomposed_norm t ns e de q o' in
      equal_rows t ns g d e dd de r (expand e p) (expand e q) (decomposed_over t ns e de p o) (decomposed_over t ns e de q o')
      (decomposed_primes t ns e de p o) (decomposed_primes t ns e de q o') (omega (arith, decomposed_norm t ns e de p o))
      (refined_equal t ns d e r p o ∙ cover p q o o' h ∙ sym (refined_equal t ns d e r q o'))
      (subst (λ i. Matches t ns d e i (expand e p) (expand e q)) (sym nq)
      (expansions_match p q (λ p' q' u v k i. equal_below n p' q' u v k (omega arith)) o o' h))

  pub refinement_covers : Covers t e
  refinement_covers p q o o' h = equal_below (suc (sum_of ns p)) p q o o' h (omega arith)
