-- A job is lowest exactly if the base pairs it with no job, and only lowest jobs stand in prime rows. Assumes nothing.
use mathlib.Core.Path.{◌≡◌, refl, sym, subst}
use mathlib.Core.Bool.{true}
use mathlib.Core.Logic.{⊎_elim}
use mathlib.Core.List.{List, [], ◌∷◌, ◌++◌}
use Prim.Native.Nat.{ℕ, zero, suc, ◌+◌, ◌≤◌, ◌<◌}
use native.Mathlib.Omega.{arith}
use lib.ListN.{length, get_or}
use Rattle.bpa.specs.Plans.{Table, over}
use Rattle.bpa.specs.Norms.{sum_of, Good}
use Rattle.bpa.specs.Method.{Base, precedes, candidate, expand, least_pair, prime_rows}
use Rattle.bpa.proofs.Basics.Plans.{over_head, over_tail, over_cons, over_one, over_append, norm_positive}
use Rattle.bpa.proofs.Rounds.Approximants.{approx_refl, approx_trans, approx_append}
use Rattle.bpa.proofs.Rounds.Equivalence.{Equivalent, equivalent_norm}
use Rattle.bpa.proofs.Base.ExactBase.{Exact}
use Rattle.bpa.proofs.Basics.Order.{precedes_cases, precedes_le, less_precedes, tie_precedes, precedes_distinct, precedes_trans}
use Rattle.bpa.proofs.Judge.Candidates.{candidate_over, candidate_norm}
use Rattle.bpa.proofs.Basics.EachJob.{Each, each_none, each_cons, expand_each}
use Rattle.bpa.proofs.Forms.LeastPair.{Paired, Unpaired, Least, least_none, least_some}
use Rattle.bpa.proofs.Forms.PrimeRows.{option_cases, rest_over, rest_jobs, rest_lower, rows_alone, rows_paired}

-- a lowest prime in terms of the equivalence
pub record LowestJob (t : Table) (j : ℕ) : Type 0 where
  pub is_job : j < t.jobs
  pub whole : (p : List ℕ) → over t p ≡ true → 2 ≤ length p → Equivalent t (j ∷ []) p → ⊥
  pub none_lower : (i : ℕ) → i < j → Equivalent t (j ∷ []) (i ∷ []) → ⊥

module _ (t : Table) (ns : List ℕ) (g : Good t ns) (b : Base) (ex : Exact t ns b) where
  -- whatever is equivalent to a job and begins with one that precedes it, the base holds the pair
  pub begins : (y x : ℕ) (δ : List ℕ) → y < t.jobs → over t (x ∷ δ) ≡ true → precedes ns x y ≡ true →
      Equivalent t (y ∷ []) (x ∷ δ) → Paired ns b y x
  begins y x δ h o p e =
      record { earlier = p; held = ex.full y x δ h (over_head t x δ o) (over_tail t x δ o) p e }

  unpaired_whole : (j : ℕ) → j < t.jobs → Unpaired ns b j t.jobs → (p : List ℕ) → over t p ≡ true → 2 ≤ length p →
      Equivalent t (j ∷ []) p → ⊥
  unfolding sum_of
  unpaired_whole j h u [] o l e = omega arith
  unpaired_whole j h u (x ∷ []) o l e = omega arith
  unpaired_whole j h u (x ∷ y ∷ δ) o l e =
      let s : sum_of ns (j ∷ []) ≡ sum_of ns (x ∷ y ∷ δ) = equivalent_norm t ns g (j ∷ []) (x ∷ y ∷ δ) (over_one t j h) o e in
      u x (over_head t x (y ∷ δ) o)
      (begins j x (y ∷ δ) h o
      (less_precedes ns x j (omega (arith, norm_positive t ns g y (over_head t y δ (over_tail t x (y ∷ δ) o))))) e)

  unpaired_lower : (j : ℕ) → j < t.jobs → Unpaired ns b j t.jobs → (i : ℕ) → i < j → Equivalent t (j ∷ []) (i ∷ []) → ⊥
  unfolding sum_of
  unpaired_lower j h u i l e =
      let o : over t (i ∷ []) ≡ true = over_one t i (omega arith) in
      let s : sum_of ns (j ∷ []) ≡ sum_of ns (i ∷ []) = equivalent_norm t ns g (j ∷ []) (i ∷ []) (over_one t j h) o e in
      u i (omega arith) (begins j i [] h o (tie_precedes ns i j (omega arith) l) e)

  pub unpaired_lowest : (j : ℕ) → j < t.jobs → Unpaired ns b j t.jobs → LowestJob t j
  unpaired_lowest j h u = record { is_job = h; whole = unpaired_whole j h u; none_lower = unpaired_lower j h u }

  pub lowest_unpaired : (j : ℕ) → LowestJob t j → Unpaired ns b j t.jobs
  unfolding sum_of
  lowest_unpaired j a z l p =
      let le : get_or ns z 0 ≤ get_or ns j 0 = precedes_le ns z j p.earlier in
      go (candidate t ns j z) (candidate_over t ns g j z a.is_job le) (candidate_norm t ns g j z a.is_job le)
      (ex.sound j z a.is_job l p.earlier p.held)
    where
      go : (c : List ℕ) → over t c ≡ true → get_or ns z 0 + sum_of ns c ≡ get_or ns j 0 → Equivalent t (j ∷ []) (z ∷ c) → ⊥
      go [] o s e =
          ⊎_elim (λ (k : get_or ns z 0 < get_or ns j 0). omega arith)
          (λ (k : (get_or ns z 0 ≡ get_or ns j 0) × (z < j)). a.none_lower z k.1 e) (precedes_cases ns z j p.earlier)
      go (y ∷ δ) o s e = a.whole (z ∷ y ∷ δ) (over_cons t z (y ∷ δ) l o) (omega arith) e

  -- a job that the first pair of a job were paired with would come first itself
  first_unpaired : (j x : ℕ) → j < t.jobs → Least ns b j t.jobs x → Unpaired ns b x t.jobs
  first_unpaired j x h a z l p =
      let c : List ℕ = candidate t ns j x in
      let d : List ℕ = candidate t ns x z in
      let oc : over t c ≡ true = rest_over t ns g b j x h a in
      let od : over t d ≡ true = candidate_over t ns g x z a.within (precedes_le ns z x p.earlier) in
      let o : over t (z ∷ d) ≡ true = over_cons t z d l od in
      let e : Equivalent t (j ∷ []) (z ∷ (d ++ c)) =
      λ k.
      approx_trans t k (j ∷ []) (x ∷ c) (z ∷ (d ++ c))
      (ex.sound j x h a.within a.paired.earlier a.paired.held k)
      (approx_append t ns g k (x ∷ []) (z ∷ d) c c (over_one t x a.within) o
      (ex.sound x z a.within l p.earlier p.held k) (approx_refl t k c)) in
      let q : Paired ns b j z =
      begins j z (d ++ c) h (over_append t (z ∷ d) c o oc) (precedes_trans ns z x j p.earlier a.paired.earlier) e in
      ⊎_elim (precedes_distinct ns z x p.earlier)
      (λ (k : precedes ns x z ≡ true). precedes_distinct ns x x (precedes_trans ns x z x k p.earlier) refl) (a.first z l q)

  rows_within : (n j : ℕ) → j < t.jobs → get_or ns j 0 ≤ n → Each (λ k. Unpaired ns b k t.jobs) (prime_rows t ns b j)
  rows_within zero j h l = absurd (omega (arith, norm_positive t ns g j h))
  rows_within (suc n) j h l =
      let U : ℕ → Type 0 = λ k. Unpaired ns b k t.jobs in
      option_cases (Each U (prime_rows t ns b j)) (least_pair ns b j t.jobs)
      (λ e. subst (Each U) (sym (rows_alone t ns g b j e)) (each_cons U j [] (least_none ns b j t.jobs e) (each_none U)))
      (λ x e.
      let a : Least ns b j t.jobs x = least_some ns b j t.jobs x e in
      let c : List ℕ = candidate t ns j x in
      subst (Each U) (sym (rows_paired t ns g b j x h e))
      (each_cons U x (expand (prime_rows t ns b) c) (first_unpaired j x h a)
      (expand_each (prime_rows t ns b) U c
      (λ i d.
      let s : get_or ns i 0 < get_or ns j 0 = rest_lower t ns g b j x h a i d in
      rows_within n i (rest_jobs t ns g b j x h a i d) (omega arith)))))

  pub rows_unpaired : (j : ℕ) → j < t.jobs → Each (λ k. Unpaired ns b k t.jobs) (prime_rows t ns b j)
  rows_unpaired j h = rows_within (get_or ns j 0) j h (omega arith)
