-- What the calls that compare plans answer and leave behind, for every input. Assumes nothing: these are definitions.
use Rattle.std.specs.Prelude.{◌≡◌, List, ℕ, ℤ}
use Rattle.bpa.specs.Method.{same}
use Rattle.answer.specs.Answer.{one_if, Gives, with_space, space_after, GivesWithSpace}
use Rattle.image.specs.Image.{table_in}
use Rattle.table.specs.CallRefusals.{two_plans}
use Rattle.alike_list.specs.AlikeTables.{alike_table, two_plans_alike}

-- COMPARE: 1 for same, 0 for apart
abbrev pub Compared : (image left right space : List ℕ) → ℤ → (space' : List ℕ) → Type 0
Compared bs p q s r s' = GivesWithSpace (two_plans bs p q) (one_if (same (table_in bs) p q)) s r s'

-- COMPARE UNDER AN ALIKE LIST: by the table with its moves replaced
abbrev pub ComparedAlike : (image alike left right space : List ℕ) → ℤ → (space' : List ℕ) → Type 0
ComparedAlike bs ls p q s r s' = GivesWithSpace (two_plans_alike bs ls p q) (one_if (same (alike_table bs ls) p q)) s r s'

-- The same before the workspace is cleared: what is left in it is gone then
pub record Comparing (bs ls p q s : List ℕ) (r : ℤ) (s' : List ℕ) : Type 0 where
  pub answer : Gives (with_space s (two_plans_alike bs ls p q)) (one_if (same (alike_table bs ls) p q)) r
  pub clears : space_after s' ≡ space_after s
