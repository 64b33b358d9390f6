-- THE REFUSALS OF A SOURCE AND OF PLANS OVER ITS TABLE IN ONE CHAIN, whatever the source is. Assumes nothing.
use Rattle.std.proofs.Common.{◌≡◌, ℕ, List, take, Result, Ok, Err}
use Rattle.bpa.specs.Plans.{Table}
use Rattle.norm.specs.declared.Normed.{Normed}
use Rattle.answer.specs.declared.Refusal.{Refusal}
use Rattle.answer.specs.Refusals.{refusal_of, or_else}
use Rattle.answer.proofs.ResultChains.{err_stops, ok_goes_on}
use Rattle.refusal.specs.Refusals.{jobs_refusal, sum_refusal, plan_refusal, plans_refusal}
use Rattle.table.specs.Sources.{Source}
use Rattle.table.specs.declared.held.HeldTable.{HeldTable}
use Rattle.table.proofs.AcceptedPlans.{seen, plan_checked, plans_checked}

-- A SOURCE, AND A CHECK OF PLANS OVER ITS TABLE: y is the source's refusal, or comes to what the check comes to once the table is held
pub data ThenChecked {B : Type 0} (r : Result HeldTable Refusal) (check : Normed → ℕ) (y : Result B Refusal) : Type 0 where
  refused_before : (k : Refusal) → r ≡ Err k → y ≡ Err k → ThenChecked r check y
  checked : (h : HeldTable) → r ≡ Ok h → (n : Normed) → n.jobs ≡ h.jobs → n.rules.now ≡ take h.end h.rules → refusal_of y ≡ check n → ThenChecked r check y

-- the whole chain, of one plan and of two
pub plan_chain : {f : ℕ} {t : Table} {r : Result HeldTable Refusal} {B : Type 0} {y : Result B Refusal} → Source f t r → (p : List ℕ) →
    ThenChecked r (λ n. or_else (jobs_refusal n.jobs p) (sum_refusal n.norms.now p)) y → refusal_of y ≡ or_else f (plan_refusal t p)
plan_chain {t = t} {r = r} {y = y} s p (refused_before k d e) = err_stops r y k (plan_refusal t p) d e s.refusal_is
plan_chain {r = r} {y = y} s p (checked h d n j e k) = ok_goes_on r h y d s.refusal_is (plan_checked n (seen s h d n j e) y p k)

pub plans_chain : {f : ℕ} {t : Table} {r : Result HeldTable Refusal} {B : Type 0} {y : Result B Refusal} → Source f t r → (p q : List ℕ) →
    ThenChecked r (λ n. or_else (jobs_refusal n.jobs p) (or_else (jobs_refusal n.jobs q) (or_else (sum_refusal n.norms.now p) (sum_refusal n.norms.now q)))) y →
    refusal_of y ≡ or_else f (plans_refusal t p q)
plans_chain {t = t} {r = r} {y = y} s p q (refused_before k d e) = err_stops r y k (plans_refusal t p q) d e s.refusal_is
plans_chain {r = r} {y = y} s p q (checked h d n j e k) = ok_goes_on r h y d s.refusal_is (plans_checked n (seen s h d n j e) y p q k)
