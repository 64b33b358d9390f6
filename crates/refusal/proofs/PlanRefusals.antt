-- Refusals 8 and 9: by their tests, and by the array of norms as by the table; what neither meets is accepted. Assumes nothing.
use mathlib.Core.Path.{◌≡◌, refl, sym, ap, ap₂, ◌∙◌}
use mathlib.Core.Bool.{Bool, true, false, cond}
use mathlib.Core.List.{List, [], ◌∷◌}
use Prim.Native.Nat.{ℕ, suc, ◌≤◌, ◌<◌}
use native.Mathlib.Omega.{arith}
use lib.Dec.{leb}
use borrow.Author.Tests.{leb-true, le-leb, lt-leb}
use Rattle.bpa.specs.Plans.{Table, all_below, over}
use Rattle.bpa.specs.Norms.{sum_of, norms, norm}
use Rattle.bpa.proofs.Basics.JobsBelow.{below_more}
use Rattle.bpa.proofs.Basics.Plans.{over_one, sum_one}
use Rattle.answer.specs.Refusals.{or_else}
use Rattle.answer.proofs.RefusalChains.{neither, both_pass}
use Rattle.norm.specs.NormArrays.{ExactNorms}
use Rattle.norm.proofs.Agreement.{sum_agree}
use Rattle.refusal.specs.Refusals.{jobs_refusal, sum_refusal, plan_refusal, plans_refusal, Accepted, AcceptedPlan}

-- a test that refuses by a number
pub passed : (b : Bool) (v : ℕ) → cond b 0 (suc v) ≡ 0 → b ≡ true
passed true v h = refl
passed false v h = absurd (omega arith)

pub jobs_by_test : (n : ℕ) (p : List ℕ) (b : Bool) → b ≡ all_below n p → cond b 0 8 ≡ jobs_refusal n p
unfolding jobs_refusal
jobs_by_test n p b e = ap (λ (x : Bool). cond x 0 8) e

pub jobs_within : (n : ℕ) (p : List ℕ) → n ≤ 24 → jobs_refusal n p ≡ 0 → all_below 24 p ≡ true
unfolding jobs_refusal
jobs_within n p l h = below_more n 24 p l (passed (all_below n p) 7 h)

pub norm_small : (ns p : List ℕ) → sum_of ns p ≤ 4096 → 0 ≡ sum_refusal ns p
unfolding sum_refusal
norm_small ns p h = sym (ap (λ (b : Bool). cond b 0 9) (le-leb (sum_of ns p) 4096 h))

pub norm_large : (ns p : List ℕ) → 4096 < sum_of ns p → 9 ≡ sum_refusal ns p
unfolding sum_refusal
norm_large ns p h = sym (ap (λ (b : Bool). cond b 0 9) (lt-leb (sum_of ns p) 4096 h))

-- BY THE ARRAY OF NORMS they are those of the table
module _ (t : Table) (a : List ℕ) (e : ExactNorms t a) where
  pub array_norm : (p : List ℕ) → sum_of a p ≡ norm t p
  unfolding norm
  array_norm p = sum_agree a (norms t) e.at p

  array_sum : (p : List ℕ) → sum_refusal a p ≡ sum_refusal (norms t) p
  unfolding sum_refusal norm
  array_sum p = ap (λ (s : ℕ). cond (leb s 4096) 0 9) (array_norm p)

  pub array_plan : (n : ℕ) → n ≡ t.jobs → (p : List ℕ) → or_else (jobs_refusal n p) (sum_refusal a p) ≡ plan_refusal t p
  unfolding plan_refusal
  array_plan n j p = ap₂ (λ (m x : ℕ). or_else (jobs_refusal m p) x) j (array_sum p)

  pub array_plans : (n : ℕ) → n ≡ t.jobs → (p q : List ℕ) →
      or_else (jobs_refusal n p) (or_else (jobs_refusal n q) (or_else (sum_refusal a p) (sum_refusal a q))) ≡ plans_refusal t p q
  unfolding plans_refusal
  array_plans n j p q =
      ap (λ (m : ℕ). or_else (jobs_refusal m p) (or_else (jobs_refusal m q) (or_else (sum_refusal a p) (sum_refusal a q)))) j
      ∙ ap₂ (λ (x y : ℕ). or_else (jobs_refusal t.jobs p) (or_else (jobs_refusal t.jobs q) (or_else x y))) (array_sum p) (array_sum q)

-- PLANS THAT ARE NOT REFUSED
module _ (t : Table) (p : List ℕ) where
  accepted : jobs_refusal t.jobs p ≡ 0 → sum_refusal (norms t) p ≡ 0 → AcceptedPlan t p
  unfolding jobs_refusal sum_refusal over norm
  accepted f g = record {
    over_table = passed (all_below t.jobs p) 7 f;
    norm_small = leb-true (sum_of (norms t) p) 4096 (passed (leb (sum_of (norms t) p) 4096) 8 g);
  }

  pub accepted_plan : plan_refusal t p ≡ 0 → AcceptedPlan t p
  unfolding plan_refusal
  accepted_plan h = let (f, g) = neither (jobs_refusal t.jobs p) (sum_refusal (norms t) p) h in accepted f g

-- and a plan that is accepted meets neither; so the plan of one job of an accepted table
pub plan_passed : (t : Table) (p : List ℕ) → AcceptedPlan t p → plan_refusal t p ≡ 0
unfolding plan_refusal jobs_refusal sum_refusal over norm
plan_passed t p a =
    both_pass (jobs_refusal t.jobs p) (sum_refusal (norms t) p) (ap (λ (b : Bool). cond b 0 8) a.over_table)
    (sym (norm_small (norms t) p a.norm_small))

pub job_passed : (t : Table) (j : ℕ) → Accepted t → j < t.jobs → plan_refusal t (j ∷ []) ≡ 0
unfolding norm
job_passed t j k l =
    plan_passed t (j ∷ []) (record { over_table = over_one t j l; norm_small = omega (arith, sum_one (norms t) j, k.small j) })

pub accepted_plans : (t : Table) (p q : List ℕ) → plans_refusal t p q ≡ 0 → AcceptedPlan t p × AcceptedPlan t q
unfolding plans_refusal
accepted_plans t p q h =
    let sums = or_else (sum_refusal (norms t) p) (sum_refusal (norms t) q) in
    let (f, rest) = neither (jobs_refusal t.jobs p) (or_else (jobs_refusal t.jobs q) sums) h in
    let (g, both) = neither (jobs_refusal t.jobs q) sums rest in
    let (k, l) = neither (sum_refusal (norms t) p) (sum_refusal (norms t) q) both in
    (accepted t p f k, accepted t q g l)
