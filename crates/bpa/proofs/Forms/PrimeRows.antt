-- The prime row of a job: its equations, with no fuel, and that it is an equivalent row of the same norm. Assumes nothing.
use mathlib.Core.Path.{◌≡◌, refl, sym, ap, ◌∙◌, subst}
use mathlib.Core.Bool.{true}
use mathlib.Core.List.{List, [], ◌∷◌}
use mathlib.Core.Option.{Option, none, some}
use Prim.Native.Nat.{ℕ, zero, suc, ◌+◌, ◌≤◌, ◌<◌}
use native.Mathlib.Omega.{arith}
use lib.ListN.{length, get_or}
use Rattle.bpa.specs.Plans.{Table, over}
use Rattle.bpa.specs.Norms.{sum_of, Good}
use Rattle.bpa.specs.Method.{Base, candidate, expand, least_pair, prime_row, prime_rows}
use Rattle.bpa.proofs.Basics.Plans.{over_one, over_cons, norm_positive}
use Rattle.bpa.proofs.Rounds.Approximants.{approx_refl, approx_trans, approx_cons}
use Rattle.bpa.proofs.Rounds.Equivalence.{Equivalent}
use Rattle.bpa.proofs.Base.ExactBase.{Exact}
use Rattle.bpa.proofs.Basics.Order.{precedes_le}
use Rattle.bpa.proofs.Judge.Rows.{RowsOver, RowsNorm, expand_over, expand_norm, expand_match}
use Rattle.bpa.proofs.Judge.Candidates.{candidate_over, candidate_norm}
use Rattle.bpa.proofs.Basics.EachJob.{Each, each_over, each_norm, expand_agree}
use Rattle.bpa.proofs.Forms.LeastPair.{Least, least_some}

pub option_cases : (P : Type 0) (o : Option ℕ) → (o ≡ none → P) → ((x : ℕ) → o ≡ some x → P) → P
option_cases P none h k = h refl
option_cases P (some x) h k = k x refl

-- a row without a job has norm 0
pub some_job : (ns r : List ℕ) → 1 ≤ sum_of ns r → 1 ≤ length r
unfolding sum_of
some_job ns [] l = l
some_job ns (j ∷ js) l = omega arith

module _ (t : Table) (ns : List ℕ) (b : Base) where
  row_alone : (n j : ℕ) → least_pair ns b j t.jobs ≡ none → prime_row t ns b n j ≡ j ∷ []
  unfolding prime_row
  row_alone zero j e = refl
  row_alone (suc n) j e = rw (e, prime_row)

  row_paired : (n j x : ℕ) → least_pair ns b j t.jobs ≡ some x →
      prime_row t ns b (suc n) j ≡ x ∷ expand (prime_row t ns b n) (candidate t ns j x)
  unfolding prime_row
  row_paired n j x e = rw (e, prime_row)

  -- what holds of a job alone and of the row of its first pair holds of its prime row
  row_cases : (P : List ℕ → Type 0) (n j : ℕ) → P (j ∷ []) →
      ((x : ℕ) → Least ns b j t.jobs x → P (x ∷ expand (prime_row t ns b n) (candidate t ns j x))) →
      P (prime_row t ns b (suc n) j)
  row_cases P n j h k =
      option_cases (P (prime_row t ns b (suc n) j)) (least_pair ns b j t.jobs)
      (λ e. subst P (sym (row_alone (suc n) j e)) h)
      (λ x e. subst P (sym (row_paired n j x e)) (k x (least_some ns b j t.jobs x e)))

module _ (t : Table) (ns : List ℕ) (g : Good t ns) (b : Base) where
  -- what follows the first pair of a job: a plan of jobs, each of a lower norm
  module _ (j x : ℕ) (h : j < t.jobs) (a : Least ns b j t.jobs x) where
    first_le : get_or ns x 0 ≤ get_or ns j 0
    first_le = precedes_le ns x j a.paired.earlier

    pub rest_over : over t (candidate t ns j x) ≡ true
    rest_over = candidate_over t ns g j x h first_le

    pub rest_jobs : Each (λ i. i < t.jobs) (candidate t ns j x)
    rest_jobs = each_over t (candidate t ns j x) rest_over

    pub rest_lower : Each (λ i. get_or ns i 0 < get_or ns j 0) (candidate t ns j x)
    rest_lower i m =
        omega (
          arith,
          candidate_norm t ns g j x h first_le,
          norm_positive t ns g x a.within,
          each_norm ns (candidate t ns j x) i m,
        )

  row_over : (n : ℕ) → RowsOver t (prime_row t ns b n)
  unfolding prime_row
  row_over zero j h = over_one t j h
  row_over (suc n) j h =
      row_cases t ns b (λ r. over t r ≡ true) n j (over_one t j h)
      (λ x a.
      let c : List ℕ = candidate t ns j x in
      over_cons t x (expand (prime_row t ns b n) c) a.within
      (expand_over t (prime_row t ns b n) (row_over n) c (rest_over j x h a)))

  row_norm : (n : ℕ) → RowsNorm t ns (prime_row t ns b n)
  unfolding prime_row sum_of
  row_norm zero j h = omega arith
  row_norm (suc n) j h =
      row_cases t ns b (λ r. sum_of ns r ≡ get_or ns j 0) n j (omega arith)
      (λ x a.
      let c : List ℕ = candidate t ns j x in
      ap (λ (k : ℕ). get_or ns x 0 + k)
      (expand_norm t ns (prime_row t ns b n) (row_norm n) c (rest_over j x h a))
      ∙ candidate_norm t ns g j x h (first_le j x h a))

  row_equivalent : Exact t ns b → (n j : ℕ) → j < t.jobs → Equivalent t (j ∷ []) (prime_row t ns b n j)
  unfolding prime_row
  row_equivalent ex zero j h = λ k. approx_refl t k (j ∷ [])
  row_equivalent ex (suc n) j h =
      row_cases t ns b (Equivalent t (j ∷ [])) n j (λ k. approx_refl t k (j ∷ []))
      (λ x a k.
      let c : List ℕ = candidate t ns j x in
      let r : List ℕ = expand (prime_row t ns b n) c in
      approx_trans t k (j ∷ []) (x ∷ c) (x ∷ r)
      (ex.sound j x h a.within a.paired.earlier a.paired.held k)
      (approx_cons t ns g k x c r a.within
      (expand_match t (prime_row t ns b n) (row_over n) ns g k (λ i m. row_equivalent ex n i m k) c
      (rest_over j x h a))))

  -- fuel beyond the norm changes nothing
  pub row_fuel : (n m j : ℕ) → j < t.jobs → get_or ns j 0 ≤ n → get_or ns j 0 ≤ m → prime_row t ns b n j ≡ prime_row t ns b m j
  row_fuel zero m j h l k = absurd (omega (arith, norm_positive t ns g j h))
  row_fuel (suc n) zero j h l k = absurd (omega (arith, norm_positive t ns g j h))
  row_fuel (suc n) (suc m) j h l k =
      option_cases (prime_row t ns b (suc n) j ≡ prime_row t ns b (suc m) j) (least_pair ns b j t.jobs)
      (λ e. row_alone t ns b (suc n) j e ∙ sym (row_alone t ns b (suc m) j e))
      (λ x e.
      let a : Least ns b j t.jobs x = least_some ns b j t.jobs x e in
      let c : List ℕ = candidate t ns j x in
      row_paired t ns b n j x e
      ∙ ap (λ (r : List ℕ). x ∷ r)
      (expand_agree (prime_row t ns b n) (prime_row t ns b m) c
      (λ i d.
      let s : get_or ns i 0 < get_or ns j 0 = rest_lower j x h a i d in
      row_fuel n m i (rest_jobs j x h a i d) (omega arith) (omega arith)))
      ∙ sym (row_paired t ns b m j x e))

  -- the equations of the prime rows, with no fuel
  pub rows_alone : (j : ℕ) → least_pair ns b j t.jobs ≡ none → prime_rows t ns b j ≡ j ∷ []
  unfolding prime_rows
  rows_alone j e = row_alone t ns b (get_or ns j 0) j e

  pub rows_paired : (j x : ℕ) → j < t.jobs → least_pair ns b j t.jobs ≡ some x →
      prime_rows t ns b j ≡ x ∷ expand (prime_rows t ns b) (candidate t ns j x)
  unfolding prime_rows
  rows_paired j x h e =
      let n : ℕ = get_or ns j 0 in
      let a : Least ns b j t.jobs x = least_some ns b j t.jobs x e in
      let c : List ℕ = candidate t ns j x in
      row_fuel n (suc n) j h (omega arith) (omega arith)
      ∙ row_paired t ns b n j x e
      ∙ ap (λ (r : List ℕ). x ∷ r)
      (expand_agree (prime_row t ns b n) (prime_rows t ns b) c
      (λ i d.
      let s : get_or ns i 0 < get_or ns j 0 = rest_lower j x h a i d in
      row_fuel n (get_or ns i 0) i (rest_jobs j x h a i d) (omega arith)
      (omega arith)))

  pub rows_over : RowsOver t (prime_rows t ns b)
  unfolding prime_rows
  rows_over j h = row_over (get_or ns j 0) j h

  pub rows_norm : RowsNorm t ns (prime_rows t ns b)
  unfolding prime_rows
  rows_norm j h = row_norm (get_or ns j 0) j h

  pub rows_equivalent : Exact t ns b → (j : ℕ) → j < t.jobs → Equivalent t (j ∷ []) (prime_rows t ns b j)
  unfolding prime_rows
  rows_equivalent ex j h = row_equivalent ex (get_or ns j 0) j h

  pub rows_some : (j : ℕ) → j < t.jobs → 1 ≤ length (prime_rows t ns b j)
  rows_some j h = some_job ns (prime_rows t ns b j) (omega (arith, rows_norm j h, norm_positive t ns g j h))
