-- THE LAST ROWS: if a refinement leaves all rows as they are, equality by them is `same`, and expansions are prime forms. Assumes nothing.
use mathlib.Core.Path.{◌≡◌, refl, sym, ap, subst, ◌∙◌}
use mathlib.Core.Bool.{true}
use mathlib.Core.Logic.{⊎_elim}
use mathlib.Core.List.Memᴰ.{head as here}
use mathlib.Core.List.{List, [], ◌∷◌, Memᴰ}
use Prim.Native.Nat.{ℕ, ◌≤◌, ◌<◌}
use native.Mathlib.Omega.{arith}
use lib.ListN.{length, get_or}
use Rattle.bpa.specs.Plans.{Table, over}
use Rattle.bpa.specs.Norms.{sum_of, norms, Good}
use Rattle.bpa.specs.Bisimilar.{AnyBisimulation, Bisimilar, Lowest, Form}
use Rattle.bpa.specs.Method.{Rows, expand, precedes}
use Rattle.bpa.proofs.Basics.Plans.{norm_positive, sum_one}
use Rattle.bpa.proofs.Basics.Order.{precedes_cases}
use Rattle.bpa.proofs.Basics.EachJob.{each_over, expand_longer}
use Rattle.bpa.proofs.Rounds.Equivalence.{Equivalent, any_within, bisimilar_equivalent}
use Rattle.bpa.proofs.Base.MethodDecides.{equivalent_bisimilar}
use Rattle.bpa.proofs.Forms.FormMeaning.{each_all}
use Rattle.bpa.proofs.Judge.Rows.{expand_in_range}
use Rattle.bpa.proofs.Answers.{same_equivalent, equivalent_same, form_single}
use Rattle.decompositions.specs.Decompositions.{Alone, Decomposition, Covers, Refines, Final}
use Rattle.decompositions.proofs.Expansions.{expand_one, decomposed_over, decomposed_norm, decomposed_primes, decomposed_twice}
use Rattle.decompositions.proofs.CloseSteps.{Matches, matches_sym, matches_trans, matches_expansion}

module _ (t : Table) (ns : List ℕ) (g : Good t ns) (d : Rows) (k : Decomposition t ns d) where
  -- no row is empty
  row_longer : (j : ℕ) → j < t.jobs → 1 ≤ length (d j)
  unfolding sum_of
  row_longer j h = go (d j) (k j h).norm
    where
      go : (row : List ℕ) → sum_of ns row ≡ get_or ns j 0 → 1 ≤ length row
      go [] s = absurd (omega (arith, norm_positive t ns g j h))
      go (i ∷ is) s = omega arith

  -- A PRIME of rows that cover is a lowest prime
  module _ (cover : Covers t d) (j : ℕ) (h : j < t.jobs) (a : Alone d j) where
    alone_equal : (p : List ℕ) → Bisimilar t (j ∷ []) p → expand d p ≡ j ∷ []
    alone_equal p b =
        sym (cover (j ∷ []) p b.over_left b.over_right (bisimilar_equivalent t ns g (j ∷ []) p b)) ∙ expand_one d j ∙ a

    alone_whole : (p : List ℕ) → 2 ≤ length p → Bisimilar t (j ∷ []) p → ⊥
    alone_whole p l b =
        let s : length (expand d p) ≡ length (j ∷ []) = ap length (alone_equal p b) in
        omega (arith, expand_longer d p (λ i m. row_longer i (each_over t p b.over_right i m)))

    alone_lower : (i : ℕ) → i < j → Bisimilar t (j ∷ []) (i ∷ []) → ⊥
    alone_lower i l b =
        let hi : i < t.jobs = omega arith in
        let r : d i ≡ j ∷ [] = sym (expand_one d i) ∙ alone_equal (i ∷ []) b in
        let m : Memᴰ j (d i) = subst (λ row. Memᴰ j row) (sym r) (here refl) in
        let s : sum_of ns (d i) ≡ sum_of ns (j ∷ []) = ap (sum_of ns) r in
        let n : get_or ns i 0 ≡ get_or ns j 0 = sym (k i hi).norm ∙ s ∙ sum_one ns j in
        ⊎_elim (λ (e : j ≡ i). omega arith)
        (λ (p : precedes ns j i ≡ true).
        ⊎_elim (λ (q : get_or ns j 0 < get_or ns i 0). omega arith)
        (λ (q : (get_or ns j 0 ≡ get_or ns i 0) × (j < i)). omega arith) (precedes_cases ns j i p)) ((k i hi).lower j m)

    alone_lowest : Lowest t j
    alone_lowest = record { prime = record { is_job = h; whole = alone_whole }; none_lower = alone_lower }

module _
    (t : Table) (ns : List ℕ) (g : Good t ns) (d e : Rows)
    (dd : Decomposition t ns d) (de : Decomposition t ns e) (r : Refines t ns d e)
    (same_rows : (j : ℕ) → j < t.jobs → e j ≡ d j) where
  -- EQUALITY BY THE ROWS IS A BISIMULATION
  equal_matches : (p q : List ℕ) → over t p ≡ true → over t q ≡ true → expand d p ≡ expand d q →
      Matches t ns d e (sum_of ns q) p q
  equal_matches p q o o' h =
      let n : ℕ = sum_of ns q in
      let s : sum_of ns p ≡ sum_of ns q =
      sym (decomposed_norm t ns d dd p o) ∙ ap (sum_of ns) h ∙ decomposed_norm t ns d dd q o' in
      let x : expand e p ≡ expand e q =
      expand_in_range t e d same_rows p o ∙ h ∙ sym (expand_in_range t e d same_rows q o') in
      let m : Matches t ns d e n p (expand e p) =
      subst (λ i. Matches t ns d e i p (expand e p)) s (matches_expansion t ns g d e dd de r p o) in
      matches_trans ns d e n t p (expand e q) q (subst (λ l. Matches t ns d e n p l) x m)
      (matches_sym ns d e n t q (expand e q) (matches_expansion t ns g d e dd de r q o'))

  equal_bisimulation : AnyBisimulation t (λ p q. expand d p ≡ expand d q)
  unfolding AnyBisimulation
  equal_bisimulation p q o o' h =
      let m : Matches t ns d e (sum_of ns q) p q = equal_matches p q o o' h in (
        λ a p' s. let (q', s', c) = m.0 a p' s in (q', s', c.0),
        λ a q' s. let (p', s', c) = m.1 a q' s in (p', s', sym c.0),
      )

  equal_equivalent : (p q : List ℕ) → over t p ≡ true → over t q ≡ true → expand d p ≡ expand d q → Equivalent t p q
  equal_equivalent p q o o' h = any_within t ns g (λ p q. expand d p ≡ expand d q) equal_bisimulation p q o o' h

  expansion_form : Covers t d → (p : List ℕ) → over t p ≡ true → Form t p (expand d p)
  expansion_form cover p o =
      let f : List ℕ = expand d p in
      let o' : over t f ≡ true = decomposed_over t ns d dd p o in
      record {
        lowest =
            each_all t f
            (λ j m. alone_lowest t ns g d dd cover j (each_over t f o' j m) (decomposed_primes t ns d dd p o j m));
        bisimilar = equivalent_bisimilar t ns g p f o o' (equal_equivalent p f o o' (sym (decomposed_twice t ns d dd p o)));
      }

pub final_rows : (t : Table) (ns : List ℕ) → Good t ns → Good t (norms t) → (d e : Rows) → Decomposition t ns d →
    Decomposition t ns e → Covers t d → Refines t ns d e → ((j : ℕ) → j < t.jobs → e j ≡ d j) → Final t ns d
final_rows t ns g gn d e dd de cover r s = record {
  decomposition = dd;
  form = λ p o. form_single t gn p (expand d p) (expansion_form t ns g d e dd de r s cover p o);
  equal_same = λ p q o o' h. equivalent_same t gn p q o o' (equal_equivalent t ns g d e dd de r s p q o o' h);
  same_equal = λ p q o o' h. cover p q o o' (same_equivalent t gn p q o o' h);
}
