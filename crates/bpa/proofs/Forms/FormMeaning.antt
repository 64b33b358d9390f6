-- Prime forms in terms of bisimilarity, for a table on which equivalent plans are bisimilar. Assumes nothing.
use mathlib.Core.Path.{◌≡◌, refl, sym, ◌∙◌, subst}
use mathlib.Core.Bool.{true}
use mathlib.Core.List.Memᴰ.{head as here}
use mathlib.Core.List.Memᴰ.{tail as there}
use mathlib.Core.List.{List, [], ◌∷◌, Memᴰ}
use Prim.Native.Nat.{ℕ, ◌≤◌, ◌<◌}
use native.Mathlib.Omega.{arith}
use lib.ListN.{length}
use Rattle.bpa.specs.Plans.{Table, over}
use Rattle.bpa.specs.Norms.{Good}
use Rattle.bpa.specs.Bisimilar.{Bisimilar, Lowest, AllLowest, no_job, one_more, Form}
use Rattle.bpa.specs.Method.{Base}
use Rattle.bpa.proofs.Basics.Plans.{over_one}
use Rattle.bpa.proofs.Rounds.Approximants.{approx_refl}
use Rattle.bpa.proofs.Rounds.Equivalence.{Equivalent, bisimilar_equivalent}
use Rattle.bpa.proofs.Base.ExactBase.{Exact}
use Rattle.bpa.proofs.Basics.EachJob.{Each, each_none, each_cons}
use Rattle.bpa.proofs.Forms.LowestJobs.{LowestJob}
use Rattle.bpa.proofs.Forms.PrimeForms.{form_of, form_over, form_equivalent, form_lowest, form_unique, form_same, form_tells, form_longest}

all_each : (t : Table) (f : List ℕ) → AllLowest t f → Each (Lowest t) f
all_each t f no_job = each_none (Lowest t)
all_each t f (one_more j js l r) = each_cons (Lowest t) j js l (all_each t js r)

pub each_all : (t : Table) (f : List ℕ) → Each (Lowest t) f → AllLowest t f
each_all t [] h = no_job
each_all t (j ∷ js) h = one_more j js (h j (here refl)) (each_all t js (λ i m. h i (there m)))

abbrev pub Back : Table → Type 0
Back t = (p q : List ℕ) → over t p ≡ true → over t q ≡ true → Equivalent t p q → Bisimilar t p q

module _ (t : Table) (ns : List ℕ) (g : Good t ns) (back : Back t) where
  lowest_job : (j : ℕ) → Lowest t j → LowestJob t j
  lowest_job j l =
      let h : j < t.jobs = l.prime.is_job in
      record {
        is_job = h;
        whole = λ p o s e. l.prime.whole p s (back (j ∷ []) p (over_one t j h) o e);
        none_lower = λ i k e. l.none_lower i k (back (j ∷ []) (i ∷ []) (over_one t j h) (over_one t i (omega arith)) e);
      }

  job_lowest : (j : ℕ) → LowestJob t j → Lowest t j
  job_lowest j l =
      record {
        prime = record {
          is_job = l.is_job;
          whole = λ p s e. l.whole p e.over_right s (bisimilar_equivalent t ns g (j ∷ []) p e);
        };
        none_lower = λ i k e. l.none_lower i k (bisimilar_equivalent t ns g (j ∷ []) (i ∷ []) e);
      }

  -- a job is its own form exactly if it is lowest, and no other job stands in any form
  pub lowest_form : (j : ℕ) → Lowest t j → Form t (j ∷ []) (j ∷ [])
  lowest_form j l =
      let o : over t (j ∷ []) ≡ true = over_one t j l.prime.is_job in
      record {
        lowest = one_more j [] l no_job;
        bisimilar = back (j ∷ []) (j ∷ []) o o (λ n. approx_refl t n (j ∷ []));
      }

  pub stands_lowest : (j : ℕ) (p f : List ℕ) → Form t p f → Memᴰ j f → Lowest t j
  stands_lowest j p f h m = all_each t f h.lowest j m

  module _ (b : Base) (ex : Exact t ns b) where
    pub form_there : (p : List ℕ) → over t p ≡ true → Form t p (form_of t ns b p)
    form_there p o =
        let f : List ℕ = form_of t ns b p in
        record {
          lowest = each_all t f (λ j m. job_lowest j (form_lowest t ns g b ex p o j m));
          bisimilar = back p f o (form_over t ns g b p o) (form_equivalent t ns g b ex p o);
        }

    pub form_only : (p f : List ℕ) → Form t p f → f ≡ form_of t ns b p
    form_only p f h =
        form_unique t ns g b ex p f h.bisimilar.over_left h.bisimilar.over_right
        (λ j m. lowest_job j (all_each t f h.lowest j m)) (bisimilar_equivalent t ns g p f h.bisimilar)

    pub forms_same : (p q f h : List ℕ) → Form t p f → Form t q h → Bisimilar t p q → f ≡ h
    forms_same p q f h k l e =
        form_only p f k
        ∙ form_same t ns g b ex p q e.over_left e.over_right (bisimilar_equivalent t ns g p q e)
        ∙ sym (form_only q h l)

    pub forms_tell : (p q f h : List ℕ) → Form t p f → Form t q h → f ≡ h → Bisimilar t p q
    forms_tell p q f h k l e =
        let o : over t p ≡ true = k.bisimilar.over_left in
        let r : over t q ≡ true = l.bisimilar.over_left in
        back p q o r (form_tells t ns g b ex p q o r (sym (form_only p f k) ∙ e ∙ form_only q h l))

    pub form_the_longest : (p f q : List ℕ) → Form t p f → Bisimilar t q p → length q ≤ length f
    form_the_longest p f q h e =
        subst (λ (r : List ℕ). length q ≤ length r) (sym (form_only p f h))
        (form_longest t ns g b ex p q e.over_right e.over_left (bisimilar_equivalent t ns g q p e))
