-- The first run of a job is the earliest by its norm-lowering rules, with no fuel: it is a run by one of them, and after none of the
-- others. Assumes nothing.
use mathlib.Core.Path.{◌≡◌, refl, sym, ap, ◌∙◌, subst}
use mathlib.Core.List.Memᴰ
use mathlib.Core.List.{List, ◌∷◌, Memᴰ}
use Prim.Native.Nat.{ℕ, zero, suc, ◌≤◌, ◌<◌}
use native.Mathlib.Omega.{arith}
use lib.ListN.{get_or}
use Rattle.bpa.specs.Plans.{Rule, Table, HasRule}
use Rattle.bpa.specs.Norms.{sum_of, norms, Good}
use Rattle.bpa.specs.Method.{Rows, expand}
use Rattle.bpa.proofs.Basics.Plans.{norm_positive}
use Rattle.bpa.proofs.Basics.EachJob.{each_over, each_norm, expand_agree}
use Rattle.first_run.specs.FirstRun.{earliest, runs_by, job_run, run_of}
use Rattle.first_run.proofs.DictionaryOrder.{NotAfter, earliest_member, earliest_first}
use Rattle.first_run.proofs.RunsByRules.{by_lowering, each_lowering, runs_agree}

-- a rule among those of the table, as a rule of its job
has_rule : (t : Table) (r : Rule) (j : ℕ) → Memᴰ r t.rules → r.job ≡ j → HasRule t j r.move r.after
has_rule t r j m e = Memᴰ.cast (λ i. record { job = sym e i; move = r.move; after = r.after }) m

-- the runs of a job by its norm-lowering rules, of which its first run is the earliest
abbrev lowering_runs : Table → (run : Rows) → (job : ℕ) → List (List ℕ)
lowering_runs t f j = runs_by f (norms t) j t.rules

module _ (t : Table) (g : Good t (norms t)) where
  -- only what jobs of lower norms run matters
  runs_same : (e f : Rows) (j : ℕ) → ((i : ℕ) → i < t.jobs → get_or (norms t) i 0 < get_or (norms t) j 0 → e i ≡ f i) →
      earliest (lowering_runs t e j) ≡ earliest (lowering_runs t f j)
  runs_same e f j h =
      ap earliest (runs_agree (norms t) j e f t.rules (λ r m (o, l).
      let w = r.after in
      expand_agree e f w (λ i d.
      h i (each_over t w (g.closed j r.move w (has_rule t r j m o)) i d) (omega (arith, each_norm (norms t) w i d)))))

  -- fuel beyond the norm changes nothing
  run_fuel : (n m j : ℕ) → j < t.jobs → get_or (norms t) j 0 ≤ n → get_or (norms t) j 0 ≤ m → job_run t n j ≡ job_run t m j
  unfolding job_run
  run_fuel zero m j h k l = absurd (omega (arith, norm_positive t (norms t) g j h))
  run_fuel (suc n) zero j h k l = absurd (omega (arith, norm_positive t (norms t) g j h))
  run_fuel (suc n) (suc m) j h k l =
      runs_same (job_run t n) (job_run t m) j (λ i b s. run_fuel n m i b (omega (arith, s)) (omega (arith, s)))

  module _ (j : ℕ) (h : j < t.jobs) where
    run_earliest : run_of t j ≡ earliest (lowering_runs t (run_of t) j)
    unfolding run_of job_run
    run_earliest =
        let n = get_or (norms t) j 0 in
        run_fuel n (suc n) j h (omega arith) (omega arith)
        ∙ runs_same (job_run t n) (run_of t) j (λ i b s. run_fuel n (get_or (norms t) i 0) i b (omega (arith, s)) (omega arith))

    -- a run by a norm-lowering rule is not before it
    pub run_not_after : (a : ℕ) (w : List ℕ) → HasRule t j a w → get_or (norms t) j 0 ≡ suc (sum_of (norms t) w) →
        NotAfter (run_of t j) (a ∷ expand (run_of t) w)
    run_not_after a w r e =
        subst (λ l. NotAfter l (a ∷ expand (run_of t) w)) (sym run_earliest)
        (earliest_first (lowering_runs t (run_of t) j) (each_lowering (norms t) j (run_of t) t.rules r (refl, e)))

    -- and it is such a run itself
    pub run_by_rule : (a : ℕ) × (w : List ℕ) × HasRule t j a w × (get_or (norms t) j 0 ≡ suc (sum_of (norms t) w)) ×
        (run_of t j ≡ a ∷ expand (run_of t) w)
    run_by_rule =
        let (a, w, r, e) = g.falls j h in
        let member = earliest_member (lowering_runs t (run_of t) j) (each_lowering (norms t) j (run_of t) t.rules r (refl, e)) in
        let (s, m, (o, l), d) = by_lowering (norms t) j (run_of t) t.rules member in
        (s.move, s.after, has_rule t s j m o, l, run_earliest ∙ d)
