-- THE TABLE OF AN IMAGE UNDER AN ALIKE LIST, and the refusals of image, list and plans in checking order. Assumes nothing: these are definitions.
use Rattle.std.specs.Prelude.{List, ℕ}
use Rattle.bpa.specs.Plans.{Table}
use Rattle.answer.specs.Refusals.{or_else}
use Rattle.refusal.specs.Refusals.{plan_refusal, plans_refusal}
use Rattle.image.specs.Image.{image_refusal, table_in}
use Rattle.alike.specs.Alike.{replaced}
use Rattle.alike_list.specs.AlikeLists.{alike_pairs, alike_refusal}

abbrev pub alike_table : (image list : List ℕ) → Table
alike_table bs ls = replaced (alike_pairs ls) (table_in bs)

-- refusals 2 to 7 of the image, then 12 and 13 of the list
abbrev pub listed_refusal : (image list : List ℕ) → ℕ
listed_refusal bs ls = or_else (image_refusal bs) (alike_refusal ls)

-- then 8 and 9 of one plan, or of two: norms, and so 9, do not depend on the list
abbrev pub one_plan_alike : (image list plan : List ℕ) → ℕ
one_plan_alike bs ls p = or_else (listed_refusal bs ls) (plan_refusal (alike_table bs ls) p)

abbrev pub two_plans_alike : (image list left right : List ℕ) → ℕ
two_plans_alike bs ls p q = or_else (listed_refusal bs ls) (plans_refusal (alike_table bs ls) p q)
