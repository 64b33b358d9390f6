-- What the call that compares plans of two tables answers and leaves behind, for every input. Assumes nothing: these are definitions.
use Rattle.std.specs.Prelude.{List, ◌≡◌, ℕ, ℤ}
use Rattle.bpa.specs.Plans.{Table}
use Rattle.bpa.specs.Method.{same}
use Rattle.answer.specs.Refusals.{or_else}
use Rattle.answer.specs.Answer.{one_if, Gives, with_space, space_after, GivesWithSpace}
use Rattle.image.specs.Image.{image_refusal, table_in}
use Rattle.alike.specs.Alike.{replaced}
use Rattle.alike_list.specs.AlikeLists.{alike_pairs, alike_refusal}
use Rattle.joined.specs.Joined.{renumbered, joined}
use Rattle.joining.specs.JoinedBytes.{tables_refusal}
use Rattle.joined_plans.specs.PlansOfTwo.{plans_refusal_between}

-- TWO TABLES AND A LIST: refusals 2 to 7 of the left image, 2 to 7 of the right one, 15, 12 and 13
abbrev pub images_refusal : (left right : List ℕ) → ℕ
images_refusal bs cs = or_else (image_refusal bs) (or_else (image_refusal cs) (tables_refusal (table_in bs) (table_in cs)))

abbrev pub joined_refusal : (left right alike : List ℕ) → ℕ
joined_refusal bs cs ls = or_else (images_refusal bs cs) (alike_refusal ls)

-- and their joined table, its moves replaced
abbrev pub joined_table : (left right alike : List ℕ) → Table
joined_table bs cs ls = replaced (alike_pairs ls) (joined (table_in bs) (table_in cs))

-- COMPARE PLANS OF TWO TABLES: 1 for same, 0 for apart, in the joined table, with the right plan as that numbers its jobs
abbrev pub two_tables : (left_image right_image alike left right : List ℕ) → ℕ
two_tables bs cs ls p q = or_else (joined_refusal bs cs ls) (plans_refusal_between (table_in bs) (table_in cs) p q)

abbrev pub ComparedTables : (left_image right_image alike left right space : List ℕ) → ℤ → (space' : List ℕ) → Type 0
ComparedTables bs cs ls p q s r s' =
    GivesWithSpace (two_tables bs cs ls p q) (one_if (same (joined_table bs cs ls) p (renumbered (table_in bs).jobs q))) s r s'

-- The same before the workspace is cleared: what is left in it is gone then
pub record ComparingTables (bs cs ls p q s : List ℕ) (r : ℤ) (s' : List ℕ) : Type 0 where
  pub answer : Gives (with_space s (two_tables bs cs ls p q)) (one_if (same (joined_table bs cs ls) p (renumbered (table_in bs).jobs q))) r
  pub clears : space_after s' ≡ space_after s
