-- What the calls that write prime forms answer and leave behind, for every input. Assumes nothing: these are definitions.
use Rattle.std.specs.Prelude.{◌≡◌, List, ℕ, ℤ}
use Rattle.bpa.specs.Method.{prime_form}
use Rattle.answer.specs.Answer.{Writes, with_space, space_after, WritesWithSpace}
use Rattle.image.specs.Image.{table_in}
use Rattle.table.specs.CallRefusals.{one_plan}
use Rattle.alike_list.specs.AlikeTables.{alike_table, one_plan_alike}

-- THE PRIME FORM of a plan
abbrev pub Formed : (image plan out space : List ℕ) → ℤ → (out' space' : List ℕ) → Type 0
Formed bs p o s r o' s' = WritesWithSpace (one_plan bs p) (prime_form (table_in bs) p) o s r o' s'

-- THE PRIME FORM of a plan under an alike list
abbrev pub FormedAlike : (image alike plan out space : List ℕ) → ℤ → (out' space' : List ℕ) → Type 0
FormedAlike bs ls p o s r o' s' = WritesWithSpace (one_plan_alike bs ls p) (prime_form (alike_table bs ls) p) o s r o' s'

-- The same before the workspace is cleared: what is left in it is gone then
pub record Forming (bs ls p o s : List ℕ) (r : ℤ) (o' s' : List ℕ) : Type 0 where
  pub written : Writes (with_space s (one_plan_alike bs ls p)) (prime_form (alike_table bs ls) p) o r o'
  pub clears : space_after s' ≡ space_after s
