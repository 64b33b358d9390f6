-- WITHOUT A LIST NOTHING DIFFERS: a prime form with an empty list is one without. Assumes nothing.
use mathlib.Core.Path.{sym, subst}
use mathlib.Core.List.{List, []}
use mathlib.Core.Logic.{◌↔◌}
use Prim.Native.Nat.{ℕ}
use lib.IntN.{ℤ}
use Rattle.bpa.specs.Plans.{Table}
use Rattle.bpa.specs.Method.{prime_form}
use Rattle.answer.specs.Answer.{WritesWithSpace}
use Rattle.image.specs.Image.{table_in}
use Rattle.table.specs.CallRefusals.{one_plan}
use Rattle.alike_list.specs.AlikeTables.{alike_table, one_plan_alike}
use Rattle.replacing.proofs.NoList.{no_replacement, one_plan_none}
use Rattle.prime_forms.specs.FormCalls.{Formed, FormedAlike}

pub formed_none : (bs p o s : List ℕ) (r : ℤ) (o' s' : List ℕ) → FormedAlike bs [] p o s r o' s' ↔ Formed bs p o s r o' s'
formed_none bs p o s r o' s' =
    let t = no_replacement (table_in bs) in
    let f = one_plan_none bs p in (
      (λ w. subst (λ (n : ℕ). WritesWithSpace n (prime_form (table_in bs) p) o s r o' s') f
          (subst (λ (u : Table). WritesWithSpace (one_plan_alike bs [] p) (prime_form u p) o s r o' s') t w)),
      (λ w. subst (λ (n : ℕ). WritesWithSpace n (prime_form (alike_table bs []) p) o s r o' s') (sym f)
          (subst (λ (u : Table). WritesWithSpace (one_plan bs p) (prime_form u p) o s r o' s') (sym t) w)),
    )
