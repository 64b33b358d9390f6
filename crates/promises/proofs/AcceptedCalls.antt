-- A call about one plan that gives back a result has an accepted table and an accepted plan. Assumes nothing.
use mathlib.Core.Path.{◌≡◌}
use mathlib.Core.List.{List}
use Prim.Native.Nat.{ℕ}
use Rattle.answer.proofs.RefusalChains.{neither}
use Rattle.refusal.specs.Refusals.{plan_refusal, Accepted, AcceptedPlan}
use Rattle.refusal.proofs.PlanRefusals.{accepted_plan}
use Rattle.image.specs.Image.{image_refusal, table_in}
use Rattle.table.specs.CallRefusals.{one_plan}
use Rattle.table.proofs.ImageTables.{image_table}

pub record AcceptedBoth (bs p : List ℕ) : Type 0 where
  pub table : Accepted (table_in bs)
  pub plan : AcceptedPlan (table_in bs) p

pub accepted_both : (bs p : List ℕ) → one_plan bs p ≡ 0 → AcceptedBoth bs p
accepted_both bs p h =
    let (i, k) = neither (image_refusal bs) (plan_refusal (table_in bs) p) h in
    record { table = image_table bs i; plan = accepted_plan (table_in bs) p k }
