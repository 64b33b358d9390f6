-- Refusals 2 to 9 in checking order, of an image with the plans that a call is given. Assumes nothing: these are definitions.
use Rattle.std.specs.Prelude.{List, ℕ}
use Rattle.answer.specs.Refusals.{or_else}
use Rattle.refusal.specs.Refusals.{plan_refusal, plans_refusal}
use Rattle.image.specs.Image.{image_refusal, table_in}

-- with one plan
abbrev pub one_plan : (image plan : List ℕ) → ℕ
one_plan bs p = or_else (image_refusal bs) (plan_refusal (table_in bs) p)

-- with two plans
abbrev pub two_plans : (image left right : List ℕ) → ℕ
two_plans bs p q = or_else (image_refusal bs) (plans_refusal (table_in bs) p q)
