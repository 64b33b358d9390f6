-- WITHOUT A LIST NOTHING DIFFERS: a comparison with an empty list answers as one without. Assumes nothing.
use mathlib.Core.Path.{sym, subst}
use mathlib.Core.List.{List, []}
use mathlib.Core.Logic.{◌↔◌}
use Prim.Native.Nat.{ℕ}
use lib.IntN.{ℤ}
use Rattle.bpa.specs.Plans.{Table}
use Rattle.bpa.specs.Method.{same}
use Rattle.answer.specs.Answer.{one_if, GivesWithSpace}
use Rattle.image.specs.Image.{table_in}
use Rattle.table.specs.CallRefusals.{two_plans}
use Rattle.alike_list.specs.AlikeTables.{alike_table, two_plans_alike}
use Rattle.replacing.proofs.NoList.{no_replacement, two_plans_none}
use Rattle.sameness.specs.SamenessCalls.{Compared, ComparedAlike}

pub compared_none : (bs p q s : List ℕ) (r : ℤ) (s' : List ℕ) → ComparedAlike bs [] p q s r s' ↔ Compared bs p q s r s'
compared_none bs p q s r s' =
    let t = no_replacement (table_in bs) in
    let f = two_plans_none bs p q in (
      (λ w. subst (λ (n : ℕ). GivesWithSpace n (one_if (same (table_in bs) p q)) s r s') f
          (subst (λ (u : Table). GivesWithSpace (two_plans_alike bs [] p q) (one_if (same u p q)) s r s') t w)),
      (λ w. subst (λ (n : ℕ). GivesWithSpace n (one_if (same (alike_table bs []) p q)) s r s') (sym f)
          (subst (λ (u : Table). GivesWithSpace (two_plans bs p q) (one_if (same u p q)) s r s') (sym t) w)),
    )
