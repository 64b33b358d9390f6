-- WHAT THE ANSWERS MEAN: `same` decides bisimilarity, and `prime-form` writes the one prime form of a plan. Assumes nothing.
use mathlib.Core.Path.{◌≡◌}
use mathlib.Core.Bool.{true, false}
use mathlib.Core.List.{List, [], ◌∷◌}
use mathlib.Core.Logic.{◌↔◌}
use Prim.Native.Nat.{ℕ, ◌≤◌}
use lib.ListN.{length}
use Rattle.bpa.specs.Plans.{Table, over}
use Rattle.bpa.specs.Norms.{norms, norm, Good}
use Rattle.bpa.specs.Bisimilar.{Approx, AnyBisimulation, Bisimilar, Lowest, Form}
use Rattle.bpa.specs.Method.{final_base, same, prime_form}
use Rattle.bpa.proofs.Rounds.Equivalence.{Equivalent, any_within, bisimilar_equivalent, equivalent_norm}
use Rattle.bpa.proofs.Base.ExactBase.{Exact, exact_base}
use Rattle.bpa.proofs.Base.MethodDecides.{deciding_rounds, judged_equivalent, equivalent_judged, judged_apart, equivalent_bisimilar}
use Rattle.bpa.proofs.Forms.PrimeForms.{form_twice, form_same, form_tells}
use Rattle.bpa.proofs.Forms.FormMeaning.{lowest_form, form_there, form_only, forms_same, forms_tell, form_the_longest}

-- two plans that match for so many rounds are bisimilar
unfoldable pub enough_rounds : Table → (plan : List ℕ) → ℕ
enough_rounds t p = deciding_rounds t (norms t) p

module _ (t : Table) (g : Good t (norms t)) where
  exact : Exact t (norms t) (final_base t (norms t))
  exact = exact_base t (norms t) g

  module _ (p q : List ℕ) (o : over t p ≡ true) (o' : over t q ≡ true) where
    pub same_equivalent : same t p q ≡ true → Equivalent t p q
    unfolding same
    same_equivalent h = judged_equivalent t (norms t) g (final_base t (norms t)) exact p q o o' h

    pub equivalent_same : Equivalent t p q → same t p q ≡ true
    unfolding same
    equivalent_same h = equivalent_judged t (norms t) g (final_base t (norms t)) exact p q o o' h

    -- `same` is true exactly if some bisimulation relates the two plans
    pub same_exact : (same t p q ≡ true) ↔ Bisimilar t p q
    same_exact = (
      λ h. equivalent_bisimilar t (norms t) g p q o o' (same_equivalent h),
      λ h. equivalent_same (bisimilar_equivalent t (norms t) g p q h),
    )

    -- and no bisimulation at all, computable or not, relates plans for which it is false
    pub any_same : (R : List ℕ → List ℕ → Type 0) → AnyBisimulation t R → R p q → same t p q ≡ true
    any_same R b h = equivalent_same (any_within t (norms t) g R b p q o o' h)

    -- plans that are apart are told apart in a number of rounds that is known before
    pub apart_told : same t p q ≡ false → Approx t (enough_rounds t p) p q → ⊥
    unfolding same enough_rounds
    apart_told h = judged_apart t (norms t) g (final_base t (norms t)) exact p q o o' h

    -- prime forms are equal exactly for plans that are the same
    pub same_forms : (same t p q ≡ true) ↔ (prime_form t p ≡ prime_form t q)
    unfolding prime_form
    same_forms = (
      λ h. form_same t (norms t) g (final_base t (norms t)) exact p q o o' (same_equivalent h),
      λ h. equivalent_same (form_tells t (norms t) g (final_base t (norms t)) exact p q o o' h),
    )

  -- bisimilar plans have equal norms
  pub same_norm : (p q : List ℕ) → Bisimilar t p q → norm t p ≡ norm t q
  unfolding norm
  same_norm p q h =
      equivalent_norm t (norms t) g p q h.over_left h.over_right (bisimilar_equivalent t (norms t) g p q h)

  back : (p q : List ℕ) → over t p ≡ true → over t q ≡ true → Equivalent t p q → Bisimilar t p q
  back = equivalent_bisimilar t (norms t) g

  -- `prime-form` writes a prime form, and there is no other
  pub form_exists : (p : List ℕ) → over t p ≡ true → Form t p (prime_form t p)
  unfolding prime_form
  form_exists = form_there t (norms t) g back (final_base t (norms t)) exact

  pub form_single : (p f : List ℕ) → Form t p f → f ≡ prime_form t p
  unfolding prime_form
  form_single = form_only t (norms t) g back (final_base t (norms t)) exact

  pub form_settled : (p : List ℕ) → over t p ≡ true → prime_form t (prime_form t p) ≡ prime_form t p
  unfolding prime_form
  form_settled = form_twice t (norms t) g (final_base t (norms t)) exact

  pub forms_exact : (p q f h : List ℕ) → Form t p f → Form t q h → (f ≡ h) ↔ Bisimilar t p q
  forms_exact p q f h k l = (
    forms_tell t (norms t) g back (final_base t (norms t)) exact p q f h k l,
    forms_same t (norms t) g back (final_base t (norms t)) exact p q f h k l,
  )

  -- no bisimilar plan has more jobs
  pub form_longest : (p f q : List ℕ) → Form t p f → Bisimilar t q p → length q ≤ length f
  form_longest = form_the_longest t (norms t) g back (final_base t (norms t)) exact

  -- a lowest prime is its own prime form
  pub lowest_own_form : (j : ℕ) → Lowest t j → Form t (j ∷ []) (j ∷ [])
  lowest_own_form = lowest_form t (norms t) g back
