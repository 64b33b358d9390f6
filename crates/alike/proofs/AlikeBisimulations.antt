-- A BISIMULATION ON THE REPLACED TABLE is exactly one on the table in which moves match when they are equal after replacement. Assumes nothing.
use mathlib.Core.Path.{sym, subst, ◌∙◌}
use mathlib.Core.List.{List}
use mathlib.Core.Logic.{◌↔◌}
use Prim.Native.Nat.{ℕ}
use Rattle.bpa.specs.Plans.{Table, over, Step}
use Rattle.bpa.specs.Bisimilar.{Simulates, Relation, Bisimulation, AnyBisimulation}
use Rattle.alike.specs.Alike.{Pair, replace, replaced, SimulatesAlike, AlikeBisimulation, AnyAlikeBisimulation}
use Rattle.alike.proofs.ReplacedTables.{step_replaced, step_raw}

module _ (ps : List Pair) (t : Table) where
  module _ (R : List ℕ → List ℕ → Type 0) (p q : List ℕ) where
    to_alike : Simulates (replaced ps t) R p q → SimulatesAlike ps t R p q
    to_alike f a p' s =
        let (q', k, r) = f (replace ps a) p' (step_replaced ps t p a p' s) in
        let (b, m, e) = step_raw ps t q (replace ps a) q' k in
        (b, q', m, sym e, r)

    to_replaced : SimulatesAlike ps t R p q → Simulates (replaced ps t) R p q
    to_replaced f b p' s =
        let (a, m, e) = step_raw ps t p b p' s in
        let (c, q', k, d, r) = f a p' m in
        (q', subst (λ (x : ℕ). Step (replaced ps t) q x q') (sym d ∙ e) (step_replaced ps t q c q' k), r)

  pub bisimulation_alike : (rel : Relation) → Bisimulation (replaced ps t) rel ↔ AlikeBisimulation ps t rel
  unfolding Bisimulation AlikeBisimulation over replaced
  bisimulation_alike rel = (
    (λ b p q o u h. let (f, g) = b p q o u h in (to_alike _ p q f, to_alike _ q p g)),
    (λ b p q o u h. let (f, g) = b p q o u h in (to_replaced _ p q f, to_replaced _ q p g)),
  )

  pub any_bisimulation_alike : (R : List ℕ → List ℕ → Type 0) → AnyBisimulation (replaced ps t) R ↔ AnyAlikeBisimulation ps t R
  unfolding AnyBisimulation AnyAlikeBisimulation over replaced
  any_bisimulation_alike R = (
    (λ b p q o u h. let (f, g) = b p q o u h in (to_alike R p q f, to_alike _ q p g)),
    (λ b p q o u h. let (f, g) = b p q o u h in (to_replaced R p q f, to_replaced _ q p g)),
  )
