-- `first_run` is the first shortest run, the only one, and as long as the norm; the order of the rules does not matter. Assumes nothing.
use mathlib.Core.Path.{◌≡◌, refl, sym, ap, ◌∙◌}
use mathlib.Core.Bool.{true}
use mathlib.Core.List.{List, [], ◌∷◌, ◌++◌}
use mathlib.Core.Logic.{inl, ⊎_elim}
use Prim.Native.Nat.{ℕ, zero, suc, ◌≤◌, ◌<◌}
use native.Mathlib.Omega.{arith}
use lib.ListN.{length, get_or}
use Rattle.bpa.specs.Plans.{Table, over, HasRule, Step, Runs, empty_run, longer_run}
use Rattle.bpa.specs.Norms.{sum_of, norms, norm, Good}
use Rattle.bpa.specs.Method.{expand}
use Rattle.bpa.proofs.Basics.Plans.{over_head, over_append, over_tail, step_over, norm_positive, sum_append}
use Rattle.bpa.proofs.Judge.Rows.{expand_append}
use Rattle.bpa.proofs.Norm.NormFewest.{norm_fewest}
use Rattle.first_run.specs.FirstRun.{Before, First, SameRules, run_of, first_run}
use Rattle.first_run.proofs.DictionaryOrder.{NotAfter, equal_rows, not_after_trans, not_after_cons, not_after_append}
use Rattle.first_run.proofs.RunParts.{first_move}
use Rattle.first_run.proofs.JobRuns.{run_by_rule, run_not_after}

-- there is one first run at most, in every table
pub first_only : (t : Table) (p u v : List ℕ) → First t p u → First t p v → u ≡ v
first_only t p u v a b =
    let k = a.fewest v b.runs in
    let l = b.fewest u a.runs in
    equal_rows (a.first v b.runs (omega arith)) (b.first u a.runs (omega arith))

module _ (t : Table) (g : Good t (norms t)) where
  -- the first run of a plan begins with a move that lowers the norm by one, and goes on with the first run of what that leaves
  begins : (j : ℕ) (js : List ℕ) → over t (j ∷ js) ≡ true →
      (a : ℕ) × (q : List ℕ) × Step t (j ∷ js) a q × (norm t (j ∷ js) ≡ suc (norm t q)) × (first_run t (j ∷ js) ≡ a ∷ first_run t q)
  unfolding norm sum_of first_run expand
  begins j js o =
      let (a, w, r, e, s) = run_by_rule t g j (over_head t j js o) in (
        a,
        w ++ js,
        (w, r, refl),
        omega (arith, sum_append (norms t) w js),
        rw (s, expand_append (run_of t) w js),
      )

  -- so it is a run to the empty plan, as long as the norm
  leads : (n : ℕ) (p : List ℕ) → over t p ≡ true → norm t p ≤ n → Runs t p (first_run t p) [] × (length (first_run t p) ≡ norm t p)
  unfolding norm sum_of first_run expand
  leads zero [] o l = (empty_run [], refl)
  leads zero (j ∷ js) o l = absurd (omega (arith, (begins j js o).3))
  leads (suc n) [] o l = (empty_run [], refl)
  leads (suc n) (j ∷ js) o l =
      let (a, q, s, e, c) = begins j js o in
      let (r, k) = leads n q (step_over t (norms t) g (j ∷ js) q a o s) (omega arith) in
      (rw c (longer_run (j ∷ js) q a (first_run t q) [] s r), ap length c ∙ ap suc k ∙ sym e)

  -- the first run of a job is as long as its norm
  pub run_length : (j : ℕ) → j < t.jobs → length (run_of t j) ≡ get_or (norms t) j 0
  unfolding norm first_run
  run_length j h =
      let (a, w, r, e, s) = run_by_rule t g j h in
      ap length s ∙ ap suc (leads (norm t w) w (g.closed j a w r) (omega arith)).1 ∙ sym e

  -- a run by a norm-lowering rule of a job, before which no other such run comes, is its first run
  pub run_only : (j a : ℕ) (w : List ℕ) → j < t.jobs → HasRule t j a w → get_or (norms t) j 0 ≡ suc (sum_of (norms t) w) →
      ((b : ℕ) (v : List ℕ) → HasRule t j b v → get_or (norms t) j 0 ≡ suc (sum_of (norms t) v) →
      Before (b ∷ expand (run_of t) v) (a ∷ expand (run_of t) w) → ⊥) → run_of t j ≡ a ∷ expand (run_of t) w
  run_only j a w h r e least =
      let (b, v, s, f, c) = run_by_rule t g j h in
      ⊎_elim (λ d. d) (λ d. absurd (least b v s f (rw c at d))) (run_not_after t g j h a w r e)

  pub first_run_length : (p : List ℕ) → over t p ≡ true → length (first_run t p) ≡ norm t p
  first_run_length p o = (leads (norm t p) p o (omega arith)).1

  -- another norm-lowering rule brings no earlier one
  begins_first : (j : ℕ) (js : List ℕ) (b : ℕ) (v : List ℕ) → j < t.jobs → HasRule t j b v → get_or (norms t) j 0 ≡ suc (sum_of (norms t) v) →
      NotAfter (first_run t (j ∷ js)) (b ∷ first_run t (v ++ js))
  unfolding norm first_run expand
  begins_first j js b v h r e =
      let l : length (run_of t j) ≡ suc (length (first_run t v)) = omega (arith, run_length j h, first_run_length v (g.closed j b v r)) in
      rw (expand_append (run_of t) v js)
      (not_after_append (first_run t js) l (run_not_after t g j h b v r e))

  -- no run to the empty plan that is as long comes before it
  is_first : (other p : List ℕ) → over t p ≡ true → Runs t p other [] → length other ≡ norm t p → NotAfter (first_run t p) other
  unfolding norm sum_of first_run expand
  is_first [] [] o r e = inl refl
  is_first [] (j ∷ js) o r e = absurd (omega (arith, norm_positive t (norms t) g j (over_head t j js o)))
  is_first (b ∷ more) [] o r e = absurd (omega arith)
  is_first (b ∷ more) (j ∷ js) o r e =
      let (q, (v, s, f), k) = first_move t r in
      let rest : Runs t (v ++ js) more [] = rw f at k in
      let d = over_append t v js (g.closed j b v s) (over_tail t j js o) in
      let sum = sum_append (norms t) v js in
      let few = (norm_fewest t g (v ++ js) d).1 more rest in
      let slow = g.slow j b v s in
      not_after_trans (begins_first j js b v (over_head t j js o) s (omega arith))
      (not_after_cons refl (is_first more (v ++ js) d rest (omega arith)))

  pub first_run_first : (p : List ℕ) → over t p ≡ true → First t p (first_run t p)
  first_run_first p o =
      let e = first_run_length p o in
      record {
        runs = (leads (norm t p) p o (omega arith)).0;
        fewest = λ other r. omega (arith, (norm_fewest t g p o).1 other r);
        first = λ other r f. is_first other p o r (f ∙ e);
      }

-- a table has the runs of another whose rules it has
more_runs : (t u : Table) → ((j a : ℕ) (w : List ℕ) → HasRule t j a w → HasRule u j a w) → {p run q : List ℕ} → Runs t p run q → Runs u p run q
more_runs t u h (empty_run p) = empty_run p
more_runs t u h (longer_run p q a more end s r) = longer_run p q a more end (step p q a s) (more_runs t u h r)
  where
    step : (p q : List ℕ) (a : ℕ) → Step t p a q → Step u p a q
    step [] q a s = s
    step (j ∷ js) q a (w, r, e) = (w, h j a w r, e)

-- tables with the same rules have the same runs, so that the order of the rules does not matter
module _ (t u : Table) (s : SameRules t u) where
  pub same_runs : {p run q : List ℕ} → Runs t p run q → Runs u p run q
  same_runs r = more_runs t u (λ j a w. (s j a w).0) r

  pub same_first : (p run : List ℕ) → First t p run → First u p run
  same_first p run f =
      let back : (other : List ℕ) → Runs u p other [] → Runs t p other [] = λ other. more_runs u t (λ j a w. (s j a w).1) in
      record {
        runs = same_runs f.runs;
        fewest = λ other r. f.fewest other (back other r);
        first = λ other r. f.first other (back other r);
      }

  pub same_first_run : Good t (norms t) → Good u (norms u) → (p : List ℕ) → over t p ≡ true → over u p ≡ true → first_run t p ≡ first_run u p
  same_first_run g h p o k =
      first_only u p (first_run t p) (first_run u p) (same_first p (first_run t p) (first_run_first t g p o)) (first_run_first u h p k)

  pub same_norm : Good t (norms t) → Good u (norms u) → (p : List ℕ) → over t p ≡ true → over u p ≡ true → norm t p ≡ norm u p
  same_norm g h p o k = sym (first_run_length t g p o) ∙ ap length (same_first_run g h p o k) ∙ first_run_length u h p k
