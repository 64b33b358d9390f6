-- A job has a weight exactly if it is a lowest prime, and its weight is its norm; so rows of a weight are the prime forms of a norm. Assumes a good table.
use mathlib.Core.Path.{◌≡◌, refl, sym, ap, ◌∙◌, subst}
use mathlib.Core.Bool.{Bool, true, cond}
use mathlib.Core.List.{List, [], ◌∷◌}
use Prim.Native.Nat.{ℕ, zero, suc, ◌+◌, ◌<◌}
use native.Mathlib.Omega.{arith}
use lib.Dec.{ltb}
use lib.ListN.{length, get_or}
use borrow.Author.Tests.{eqb-true, eq-eqb, ltb-true, lt-ltb}
use Rattle.bpa.specs.Plans.{Table, over}
use Rattle.bpa.specs.Norms.{sum_of, all_known, norms, norm, Good}
use Rattle.bpa.specs.Bisimilar.{Lowest, AllLowest, no_job, one_more, Form}
use Rattle.bpa.specs.Method.{prime_form}
use Rattle.bpa.proofs.Basics.Cases.{by_test, never_both, and_left, and_right, and_both}
use Rattle.bpa.proofs.Basics.Plans.{over_none, over_cons, over_one, norm_positive}
use Rattle.bpa.proofs.Rounds.Approximants.{approx_refl}
use Rattle.bpa.proofs.Base.MethodDecides.{equivalent_bisimilar}
use Rattle.bpa.proofs.Answers.{form_exists, form_single, same_norm, lowest_own_form}
use Rattle.catalogue.specs.Catalogue.{FormOf, is_alone, own_form, weight, weights_from, weights}
use Rattle.catalogue.proofs.WeightedRows.{within_length, Weighs}

-- a row that is the job alone
pub alone_is : (j : ℕ) (r : List ℕ) → is_alone j r ≡ true → r ≡ j ∷ []
unfolding is_alone
alone_is j [] e = absurd (never_both true refl (sym e))
alone_is j (x ∷ []) e = ap (λ (i : ℕ). i ∷ []) (eqb-true x j e)
alone_is j (x ∷ y ∷ more) e = absurd (never_both true refl (sym e))

pub is_itself : (j : ℕ) → is_alone j (j ∷ []) ≡ true
unfolding is_alone
is_itself j = eq-eqb j j refl

-- THE LIST OF WEIGHTS at each job
weights_at_from : (t : Table) (n i j : ℕ) → j < n → get_or (weights_from t n i) j 0 ≡ weight t (i + j)
unfolding weights_from
weights_at_from t zero i j h = absurd (omega arith)
weights_at_from t (suc n) i zero h = ap (weight t) (omega arith)
weights_at_from t (suc n) i (suc j) h = weights_at_from t n (suc i) j (omega arith) ∙ ap (weight t) (omega arith)

weights_long_from : (t : Table) (n i : ℕ) → length (weights_from t n i) ≡ n
unfolding weights_from
weights_long_from t zero i = refl
weights_long_from t (suc n) i = ap suc (weights_long_from t n (suc i))

pub weights_long : (t : Table) → length (weights t) ≡ t.jobs
unfolding weights
weights_long t = weights_long_from t t.jobs 0

pub weights_at : (t : Table) (j : ℕ) → j < t.jobs → get_or (weights t) j 0 ≡ weight t j
unfolding weights
weights_at t j h = weights_at_from t t.jobs 0 j h ∙ ap (weight t) (omega arith)

module _ (t : Table) (g : Good t (norms t)) where
  -- A JOB THAT IS ITS OWN PRIME FORM is a lowest prime, and the other way round
  first_lowest : (j : ℕ) (js : List ℕ) → AllLowest t (j ∷ js) → Lowest t j
  first_lowest j js (one_more _ _ l r) = l

  own_lowest : (j : ℕ) → j < t.jobs → own_form t j ≡ true → Lowest t j
  unfolding own_form
  own_lowest j h e =
      let f = form_exists t g (j ∷ []) (over_one t j h) in
      first_lowest j [] (subst (AllLowest t) (alone_is j (prime_form t (j ∷ [])) e) f.lowest)

  lowest_own : (j : ℕ) → Lowest t j → own_form t j ≡ true
  unfolding own_form
  lowest_own j l =
      subst (λ (r : List ℕ). is_alone j r ≡ true) (form_single t g (j ∷ []) (j ∷ []) (lowest_own_form t g j l)) (is_itself j)

  -- SO A JOB HAS A WEIGHT exactly if it is one, and its weight is its norm
  weight_lowest : (j : ℕ) → 0 < get_or (weights t) j 0 → Lowest t j
  unfolding weight
  weight_lowest j h =
      let i : j < t.jobs = omega (arith, within_length (weights t) j h, weights_long t) in
      by_test (own_form t j) (own_lowest j i)
      (λ e. absurd (omega (arith, weights_at t j i, ap (λ (b : Bool). cond b (get_or (norms t) j 0) 0) e)))

  lowest_weight : (j : ℕ) → Lowest t j → get_or (weights t) j 0 ≡ get_or (norms t) j 0
  unfolding weight
  lowest_weight j l =
      weights_at t j l.prime.is_job ∙ ap (λ (b : Bool). cond b (get_or (norms t) j 0) 0) (lowest_own j l)

  -- ROWS OF JOBS WITH A WEIGHT are the rows of lowest primes, of that norm
  known_lowest : (f : List ℕ) → all_known (weights t) f ≡ true → AllLowest t f
  unfolding all_known
  known_lowest [] e = no_job
  known_lowest (j ∷ js) e =
      let a = ltb 0 (get_or (weights t) j 0) in
      one_more j js (weight_lowest j (ltb-true 0 (get_or (weights t) j 0) (and_left a (all_known (weights t) js) e)))
      (known_lowest js (and_right a (all_known (weights t) js) e))

  lowest_known : (f : List ℕ) → AllLowest t f → all_known (weights t) f ≡ true
  unfolding all_known
  lowest_known f no_job = refl
  lowest_known f (one_more j js l r) =
      and_both (ltb 0 (get_or (weights t) j 0)) (all_known (weights t) js)
      (lt-ltb 0 (get_or (weights t) j 0) (omega (arith, lowest_weight j l, norm_positive t (norms t) g j l.prime.is_job)))
      (lowest_known js r)

  lowest_sum : (f : List ℕ) → AllLowest t f → sum_of (weights t) f ≡ sum_of (norms t) f
  unfolding sum_of
  lowest_sum f no_job = refl
  lowest_sum f (one_more j js l r) = omega (arith, lowest_weight j l, lowest_sum js r)

  lowest_over : (f : List ℕ) → AllLowest t f → over t f ≡ true
  lowest_over f no_job = over_none t
  lowest_over f (one_more j js l r) = over_cons t j js l.prime.is_job (lowest_over js r)

  -- a row of lowest primes is its own prime form
  pub lowest_form : (f : List ℕ) → AllLowest t f → Form t f f
  lowest_form f l =
      let o = lowest_over f l in
      record { lowest = l; bisimilar = equivalent_bisimilar t (norms t) g f f o o (λ n. approx_refl t n f) }

  -- THE PRIME FORMS OF A NORM are the rows of that weight
  pub weighs_form : (v : ℕ) (f : List ℕ) → Weighs (weights t) v f → FormOf t v f
  unfolding norm
  weighs_form v f w =
      let l = known_lowest f w.known in
      record { plan = f; form = lowest_form f l; norm_is = omega (arith, lowest_sum f l, w.sum) }

  pub form_weighs : (v : ℕ) (f : List ℕ) → FormOf t v f → Weighs (weights t) v f
  unfolding norm
  form_weighs v f d =
      let l = d.form.lowest in
      record {
        known = lowest_known f l;
        sum = lowest_sum f l ∙ sym (same_norm t g d.plan f d.form.bisimilar) ∙ d.norm_is;
      }
