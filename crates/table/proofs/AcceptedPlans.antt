-- PLANS OVER A TABLE THAT IS HELD: what their checks come to, and, once these are past, all that the functions about plans ask. Assumes nothing.
use Rattle.std.proofs.Common.{◌≡◌, ℕ, List, take, ap, ap₂, ◌∙◌, Result, Ok}
use Rattle.bpa.specs.Plans.{Table}
use Rattle.rules.specs.Places.{table_of}
use Rattle.norm.specs.NormArrays.{GoodNorms}
use Rattle.norm.specs.declared.Normed.{Normed}
use Rattle.norm.proofs.NormedTables.{good_norms}
use Rattle.answer.specs.declared.Refusal.{Refusal}
use Rattle.answer.specs.Refusals.{refusal_of, or_else}
use Rattle.answer.proofs.ResultChains.{ok_passes}
use Rattle.refusal.specs.Refusals.{jobs_refusal, sum_refusal, plan_refusal, plans_refusal}
use Rattle.refusal.proofs.PlanRefusals.{accepted_plan, accepted_plans}
use Rattle.table.specs.Sources.{Source}
use Rattle.table.specs.declared.held.HeldTable.{HeldTable}
use Rattle.table.proofs.HeldTables.{Ready, ready, of_plan, of_plans}

-- a table that was had from a source, as it is seen
pub seen : {f : ℕ} {t : Table} {r : Result HeldTable Refusal} → Source f t r → (h : HeldTable) → r ≡ Ok h →
    (n : Normed) → n.jobs ≡ h.jobs → n.rules.now ≡ take h.end h.rules → table_of n.jobs n.rules.now ≡ t
seen s h p n j e = ap₂ table_of j e ∙ s.holds h p

module _ (n : Normed) {t : Table} (is : table_of n.jobs n.rules.now ≡ t) where
  pub good : GoodNorms n.jobs n.rules.now n.norms.now
  good = good_norms n.jobs n.rules.now n.norms.now n.list n.exact n.finite

  module _ {A : Type 0} (x : Result A Refusal) (p : List ℕ) (e : refusal_of x ≡ or_else (jobs_refusal n.jobs p) (sum_refusal n.norms.now p)) where
    pub plan_checked : refusal_of x ≡ plan_refusal t p
    plan_checked = e ∙ of_plan n.jobs n.rules.now n.norms.now good p ∙ ap (λ (y : Table). plan_refusal y p) is

    pub plan_ready : (u : A) → x ≡ Ok u → Ready t n.jobs n.rules.now n.norms.now p
    plan_ready u k =
        let z = ok_passes x u k (e ∙ of_plan n.jobs n.rules.now n.norms.now good p) in
        ready n.jobs n.rules.now n.norms.now p good (accepted_plan (table_of n.jobs n.rules.now) p z) t is

  module _ {A : Type 0} (x : Result A Refusal) (p q : List ℕ)
      (e : refusal_of x ≡ or_else (jobs_refusal n.jobs p) (or_else (jobs_refusal n.jobs q) (or_else (sum_refusal n.norms.now p) (sum_refusal n.norms.now q)))) where
    pub plans_checked : refusal_of x ≡ plans_refusal t p q
    plans_checked = e ∙ of_plans n.jobs n.rules.now n.norms.now good p q ∙ ap (λ (y : Table). plans_refusal y p q) is

    pub plans_ready : (u : A) → x ≡ Ok u → Ready t n.jobs n.rules.now n.norms.now p × Ready t n.jobs n.rules.now n.norms.now q
    plans_ready u k =
        let z = ok_passes x u k (e ∙ of_plans n.jobs n.rules.now n.norms.now good p q) in
        let (a, b) = accepted_plans (table_of n.jobs n.rules.now) p q z in
        (ready n.jobs n.rules.now n.norms.now p good a t is, ready n.jobs n.rules.now n.norms.now q good b t is)
