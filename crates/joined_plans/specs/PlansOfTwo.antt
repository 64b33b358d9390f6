-- Plans over two tables, each over its own: refusals 8 and 9. Assumes nothing: these are definitions.
use Rattle.std.specs.Prelude.{cond, List, ℕ, eqb}
use Rattle.bpa.specs.Plans.{Table}
use Rattle.bpa.specs.Norms.{norms}
use Rattle.answer.specs.Refusals.{or_else}
use Rattle.refusal.specs.Refusals.{jobs_refusal, sum_refusal}

-- REFUSALS 8 AND 9 of two plans, each over its own table: 8 of the left, 8 of the right, 9 of the left, 9 of the right
unfoldable pub plans_refusal_between : (t u : Table) → (left right : List ℕ) → ℕ
plans_refusal_between t u p q =
    or_else (jobs_refusal t.jobs p) (or_else (jobs_refusal u.jobs q) (or_else (sum_refusal (norms t) p) (sum_refusal (norms u) q)))

-- the same by what 8 and 9 of each plan come to
unfoldable pub eight_first : (left right : ℕ) → ℕ
eight_first a b = cond (eqb b 8) 8 (or_else a b)
