-- A LIST OF LENGTH 0 IS NO LIST: the table and the refusals are those without one. Assumes nothing.
use mathlib.Core.Path.{◌≡◌, refl, ap₂}
use mathlib.Core.List.{List, [], ◌∷◌}
use Prim.Native.Nat.{ℕ}
use native.Mathlib.Omega.{arith}
use lib.ListN.{length}
use Rattle.bpa.specs.Plans.{Table}
use Rattle.answer.specs.Refusals.{or_else}
use Rattle.answer.proofs.RefusalChains.{then_none}
use Rattle.refusal.specs.Refusals.{plan_refusal, plans_refusal}
use Rattle.image.specs.Image.{image_refusal, table_in}
use Rattle.table.specs.CallRefusals.{one_plan, two_plans}
use Rattle.alike.specs.Alike.{from_twice, from_as_to, clashes, replaced}
use Rattle.alike.proofs.ReplacedTables.{replaced_none}
use Rattle.alike_list.specs.AlikeLists.{pairs_in, pair_count, alike_pairs, pairs_refusal, clash_refusal, alike_refusal}
use Rattle.alike_list.specs.AlikeTables.{one_plan_alike, two_plans_alike}

pub no_refusal : (f : ℕ) → or_else f (alike_refusal []) ≡ f
unfolding or_else alike_refusal pairs_refusal clash_refusal alike_pairs pair_count pairs_in clashes from_twice from_as_to
no_refusal f = then_none f

pub none_refused : (ls : List ℕ) → length ls ≡ 0 → alike_refusal ls ≡ 0
unfolding or_else alike_refusal pairs_refusal clash_refusal alike_pairs pair_count pairs_in clashes from_twice from_as_to
none_refused [] e = refl
none_refused (x ∷ ls) e = absurd (omega arith)

pub no_replacement : (t : Table) → replaced (alike_pairs []) t ≡ t
unfolding alike_pairs pair_count pairs_in
no_replacement t = replaced_none t

-- THE REFUSALS OF THE CALLS without a list
module _ (bs : List ℕ) where
  pub one_plan_none : (p : List ℕ) → one_plan_alike bs [] p ≡ one_plan bs p
  one_plan_none p = ap₂ (λ (f : ℕ) (t : Table). or_else f (plan_refusal t p)) (no_refusal (image_refusal bs)) (no_replacement (table_in bs))

  pub two_plans_none : (p q : List ℕ) → two_plans_alike bs [] p q ≡ two_plans bs p q
  two_plans_none p q = ap₂ (λ (f : ℕ) (t : Table). or_else f (plans_refusal t p q)) (no_refusal (image_refusal bs)) (no_replacement (table_in bs))
