-- The norm of a plan is the length of a shortest run to the empty plan, and is missing exactly if there is none. Assumes nothing.
use mathlib.Core.Path.{◌≡◌, refl, ap, subst}
use mathlib.Core.Bool.{true}
use mathlib.Core.List.{List, [], ◌∷◌, ◌++◌}
use mathlib.Core.Logic.{◌↔◌}
use Prim.Native.Nat.{ℕ, suc, ◌≤◌, ◌<◌}
use native.Mathlib.Decide.{dec_lt}
use native.Mathlib.Omega.{arith}
use lib.ListN.{length, get_or}
use Rattle.bpa.specs.Plans.{Table, over, HasRule, Step, Runs}
use Rattle.bpa.specs.Norms.{sum_of, all_known, norms, norm, Fewest, NeverEnds}
use Rattle.bpa.proofs.Basics.Plans.{over_head, over_one, sum_append, sum_one}
use Rattle.bpa.proofs.Norm.NormRounds.{Found, ByRule, next_by_rule, next_least}
use Rattle.bpa.proofs.Norm.KnownPlans.{known_parts, known_cons, known_append, known_split}
use Rattle.bpa.proofs.Norm.NormStable.{norms_stable}
use Rattle.bpa.proofs.Norm.RunLengths.{run_down, run_back}

module _ (t : Table) where
  -- a job's norm comes from a rule, and no rule gives a lower one
  pub job_by_rule : (j : ℕ) → 0 < get_or (norms t) j 0 → ByRule j (norms t) t.rules (get_or (norms t) j 0)
  job_by_rule j = rw (norms_stable t) at (next_by_rule t (norms t) j)

  pub job_least : (j a : ℕ) (w : List ℕ) → j < t.jobs → HasRule t j a w → all_known (norms t) w ≡ true →
      Found (suc (sum_of (norms t) w)) (get_or (norms t) j 0)
  job_least j a w h r k = rw (norms_stable t) at (next_least t (norms t) j a w h r k)

  -- a plan whose jobs have norms has a step that lowers its norm by one, to another such plan
  step_down : (j : ℕ) (js : List ℕ) → all_known (norms t) (j ∷ js) ≡ true →
      (a : ℕ) × (q : List ℕ) × Step t (j ∷ js) a q × (all_known (norms t) q ≡ true) × (sum_of (norms t) (j ∷ js) ≡ suc (sum_of (norms t) q))
  unfolding sum_of
  step_down j js k =
      let (a, b) = known_parts (norms t) j js k in
      let r = job_by_rule j a in (
        r.move,
        r.after ++ js,
        (r.after, r.rule, refl),
        known_append (norms t) r.after js r.known b,
        omega (arith, r.norm, sum_append (norms t) r.after js),
      )

  -- so it has a run as long as its norm
  norm_run : (p : List ℕ) → all_known (norms t) p ≡ true → (run : List ℕ) × Runs t p run [] × (length run ≡ norm t p)
  unfolding norm
  norm_run p k = run_down t (norms t) (λ q. all_known (norms t) q ≡ true) step_down (sum_of (norms t) p) p k refl

module _ (t : Table) (closed : (j a : ℕ) (w : List ℕ) → HasRule t j a w → over t w ≡ true) where
  step_known : (p q : List ℕ) (a : ℕ) → over t p ≡ true → Step t p a q → all_known (norms t) q ≡ true →
      (all_known (norms t) p ≡ true) × (sum_of (norms t) p ≤ suc (sum_of (norms t) q))
  unfolding sum_of
  step_known [] q a o s k = absurd s
  step_known (j ∷ js) q a o (w, r, e) k =
      let (b, c) = known_split (norms t) w js (subst (λ l. all_known (norms t) l ≡ true) e k) in
      let (d, f) = job_least t j a w (over_head t j js o) r b in
      (known_cons (norms t) j js d c, omega (arith, sum_append (norms t) w js, ap (sum_of (norms t)) e))

  run_plan : {p run : List ℕ} → Runs t p run [] → over t p ≡ true → (all_known (norms t) p ≡ true) × (norm t p ≤ length run)
  unfolding norm sum_of all_known
  run_plan r o = let (k, l) = run_back t (norms t) (λ q. all_known (norms t) q ≡ true) closed step_known r o refl in (k, omega arith)

  plan_norm : (p : List ℕ) → over t p ≡ true → all_known (norms t) p ≡ true → Fewest t p (norm t p)
  plan_norm p o k = (norm_run t p k, λ run r. (run_plan r o).1)

  pub job_norm : (j : ℕ) → j < t.jobs → 0 < get_or (norms t) j 0 → Fewest t (j ∷ []) (get_or (norms t) j 0)
  unfolding norm all_known
  job_norm j h k =
      subst (Fewest t (j ∷ [])) (sum_one (norms t) j) (plan_norm (j ∷ []) (over_one t j h) (known_cons (norms t) j [] k refl))

  pub job_without : (j : ℕ) → j < t.jobs → (get_or (norms t) j 0 ≡ 0) ↔ NeverEnds t (j ∷ [])
  unfolding all_known
  job_without j h = (none, missing)
    where
      none : get_or (norms t) j 0 ≡ 0 → NeverEnds t (j ∷ [])
      none e run r = omega (arith, (known_parts (norms t) j [] (run_plan r (over_one t j h)).0).0)

      decided : NeverEnds t (j ∷ []) → Dec (0 < get_or (norms t) j 0) → get_or (norms t) j 0 ≡ 0
      decided n (yes k) = let ((run, r, e), l) = job_norm j h k in absurd (n run r)
      decided n (no k) = omega arith

      missing : NeverEnds t (j ∷ []) → get_or (norms t) j 0 ≡ 0
      missing n = decided n (dec_lt 0 (get_or (norms t) j 0))
