-- The prime form by an exact base: an equivalent row of lowest jobs, equal for equivalent plans only, and the longest of them.
-- Assumes nothing.
use mathlib.Core.Path.{◌≡◌, sym, subst}
use mathlib.Core.Bool.{true}
use mathlib.Core.List.{List}
use Prim.Native.Nat.{ℕ, ◌≤◌}
use lib.ListN.{length}
use Rattle.bpa.specs.Plans.{Table, over}
use Rattle.bpa.specs.Norms.{Good}
use Rattle.bpa.specs.Bisimilar.{Approx}
use Rattle.bpa.specs.Method.{Base, expand, prime_rows}
use Rattle.bpa.proofs.Rounds.Approximants.{approx_refl, approx_sym, approx_trans}
use Rattle.bpa.proofs.Rounds.Equivalence.{Equivalent}
use Rattle.bpa.proofs.Base.ExactBase.{Exact}
use Rattle.bpa.proofs.Judge.Rows.{expand_over, expand_match}
use Rattle.bpa.proofs.Basics.EachJob.{Each, each_over, expand_each, expand_longer}
use Rattle.bpa.proofs.Forms.LeastPair.{Unpaired}
use Rattle.bpa.proofs.Forms.PrimeRows.{rows_over, rows_equivalent, rows_some}
use Rattle.bpa.proofs.Forms.LowestJobs.{LowestJob, unpaired_lowest, lowest_unpaired, rows_unpaired}
use Rattle.bpa.proofs.Forms.UniqueForms.{unpaired_unique}

-- the form of a plan by any base; `prime-form` is that by the final base
abbrev pub form_of : Table → (norms : List ℕ) → Base → (plan : List ℕ) → List ℕ
form_of t ns b p = expand (prime_rows t ns b) p

module _ (t : Table) (ns : List ℕ) (g : Good t ns) (b : Base) where
  pub form_over : (p : List ℕ) → over t p ≡ true → over t (form_of t ns b p) ≡ true
  form_over p o = expand_over t (prime_rows t ns b) (rows_over t ns g b) p o

module _ (t : Table) (ns : List ℕ) (g : Good t ns) (b : Base) (ex : Exact t ns b) where
  pub form_equivalent : (p : List ℕ) → over t p ≡ true → Equivalent t p (form_of t ns b p)
  form_equivalent p o n =
      expand_match t (prime_rows t ns b) (rows_over t ns g b) ns g n (λ j h. rows_equivalent t ns g b ex j h n) p o

  form_unpaired : (p : List ℕ) → over t p ≡ true → Each (λ j. Unpaired ns b j t.jobs) (form_of t ns b p)
  form_unpaired p o =
      expand_each (prime_rows t ns b) (λ j. Unpaired ns b j t.jobs) p
      (λ j m. rows_unpaired t ns g b ex j (each_over t p o j m))

  pub form_lowest : (p : List ℕ) → over t p ≡ true → Each (LowestJob t) (form_of t ns b p)
  form_lowest p o j m =
      unpaired_lowest t ns g b ex j (each_over t (form_of t ns b p) (form_over t ns g b p o) j m) (form_unpaired p o j m)

  pub form_unique : (p f : List ℕ) → over t p ≡ true → over t f ≡ true → Each (LowestJob t) f → Equivalent t p f →
      f ≡ form_of t ns b p
  form_unique p f o of l e =
      unpaired_unique t ns g b ex f (form_of t ns b p) of (form_over t ns g b p o)
      (λ j m. lowest_unpaired t ns g b ex j (l j m)) (form_unpaired p o)
      (λ n. approx_trans t n f p (form_of t ns b p) (approx_sym t n p f (e n)) (form_equivalent p o n))

  -- a row of lowest jobs is its own form, as each form is
  pub form_itself : (p : List ℕ) → over t p ≡ true → Each (LowestJob t) p → form_of t ns b p ≡ p
  form_itself p o l = sym (form_unique p p o o l (λ n. approx_refl t n p))

  pub form_twice : (p : List ℕ) → over t p ≡ true → form_of t ns b (form_of t ns b p) ≡ form_of t ns b p
  form_twice p o = form_itself (form_of t ns b p) (form_over t ns g b p o) (form_lowest p o)

  pub form_same : (p q : List ℕ) → over t p ≡ true → over t q ≡ true → Equivalent t p q →
      form_of t ns b p ≡ form_of t ns b q
  form_same p q o r e =
      form_unique q (form_of t ns b p) r (form_over t ns g b p o) (form_lowest p o)
      (λ n. approx_trans t n q p (form_of t ns b p) (approx_sym t n p q (e n)) (form_equivalent p o n))

  pub form_tells : (p q : List ℕ) → over t p ≡ true → over t q ≡ true → form_of t ns b p ≡ form_of t ns b q →
      Equivalent t p q
  form_tells p q o r e n =
      approx_trans t n p (form_of t ns b p) q (form_equivalent p o n)
      (subst (λ (f : List ℕ). Approx t n f q) (sym e) (approx_sym t n q (form_of t ns b q) (form_equivalent q r n)))

  pub form_longest : (p q : List ℕ) → over t p ≡ true → over t q ≡ true → Equivalent t q p →
      length q ≤ length (form_of t ns b p)
  form_longest p q o r e =
      subst (λ (f : List ℕ). length q ≤ length f) (form_same q p r o e)
      (expand_longer (prime_rows t ns b) q (λ j m. rows_some t ns g b j (each_over t q r j m)))
