-- What a call knows of a plan over a table that it holds: its refusals by the array of norms, and, once none is met, all that the functions about
-- plans ask. Assumes nothing.
use mathlib.Core.Path.{◌≡◌, refl, ap, ◌∙◌}
use mathlib.Core.Bool.{true}
use mathlib.Core.List.{List}
use Prim.Native.Nat.{ℕ, ◌≤◌}
use native.Mathlib.Omega.{arith}
use lib.ListN.{length}
use Rattle.bpa.specs.Plans.{Table, all_below, over}
use Rattle.bpa.specs.Norms.{sum_of, norm}
use Rattle.bpa.proofs.Basics.Plans.{length_norm}
use Rattle.bpa.proofs.Basics.JobsBelow.{below_more}
use Rattle.rules.specs.Places.{table_of}
use Rattle.norm.specs.NormArrays.{GoodNorms}
use Rattle.answer.specs.Refusals.{or_else}
use Rattle.refusal.specs.Refusals.{jobs_refusal, sum_refusal, plan_refusal, plans_refusal, AcceptedPlan}
use Rattle.refusal.proofs.PlanRefusals.{array_norm, array_plan, array_plans}

-- AN ACCEPTED PLAN over a table that is held
pub record Ready (t : Table) (jobs : ℕ) (rs ns p : List ℕ) : Type 0 where
  pub is : table_of jobs rs ≡ t
  pub good : GoodNorms jobs rs ns
  pub within : all_below jobs p ≡ true
  pub within_24 : all_below 24 p ≡ true
  pub over_table : over (table_of jobs rs) p ≡ true
  pub norm_is : sum_of ns p ≡ norm t p
  pub norm_small : norm (table_of jobs rs) p ≤ 4096
  pub sum_small : sum_of ns p ≤ 4096
  pub short : length p ≤ 4096

module _ (jobs : ℕ) (rs ns p : List ℕ) (g : GoodNorms jobs rs ns) (a : AcceptedPlan (table_of jobs rs) p) where
  below : all_below jobs p ≡ true
  unfolding over table_of
  below = a.over_table

  few : length p ≤ 4096
  unfolding norm
  few = omega (arith, length_norm (table_of jobs rs) _ g.good p a.over_table, a.norm_small)

  by_array : sum_of ns p ≡ norm (table_of jobs rs) p
  by_array = array_norm (table_of jobs rs) ns g.exact p

  pub ready : (t : Table) → table_of jobs rs ≡ t → Ready t jobs rs ns p
  ready t e = record {
    is = e;
    good = g;
    within = below;
    within_24 = below_more jobs 24 p g.list.jobs below;
    over_table = a.over_table;
    norm_is = by_array ∙ ap (λ (x : Table). norm x p) e;
    norm_small = a.norm_small;
    sum_small = omega (arith, by_array, a.norm_small);
    short = few;
  }

-- the refusals of plans by the array of norms
module _ (jobs : ℕ) (rs ns : List ℕ) (g : GoodNorms jobs rs ns) where
  own_jobs : jobs ≡ (table_of jobs rs).jobs
  unfolding table_of
  own_jobs = refl

  pub of_plan : (p : List ℕ) → or_else (jobs_refusal jobs p) (sum_refusal ns p) ≡ plan_refusal (table_of jobs rs) p
  of_plan = array_plan (table_of jobs rs) ns g.exact jobs own_jobs

  pub of_plans : (p q : List ℕ) → or_else (jobs_refusal jobs p) (or_else (jobs_refusal jobs q) (or_else (sum_refusal ns p) (sum_refusal ns q)))
      ≡ plans_refusal (table_of jobs rs) p q
  of_plans = array_plans (table_of jobs rs) ns g.exact jobs own_jobs
