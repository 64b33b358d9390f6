-- REFUSALS 6 TO 9: of a table by its norms, and of plans over it; what is accepted is what none of them meets. Assumes nothing:
-- these are definitions.
use Rattle.std.specs.Prelude.{◌≡◌, Bool, true, false, ◌||◌, cond, List, [], ◌∷◌, ℕ, ◌≤◌, ltb, leb, eqb, length, get_or}
use Rattle.bpa.specs.Plans.{Table, all_below, over, HasRule}
use Rattle.bpa.specs.Norms.{sum_of, norms, norm, Good}
use Rattle.answer.specs.Refusals.{or_else}

-- REFUSALS 6 AND 7 of a table: some job has no norm, then some norm is above 512
unfoldable pub any_zero : List ℕ → Bool
any_zero [] = false
any_zero (n ∷ ns) = eqb n 0 || any_zero ns

unfoldable pub any_above : (most : ℕ) → List ℕ → Bool
any_above m [] = false
any_above m (n ∷ ns) = ltb m n || any_above m ns

unfoldable pub norms_refusal : (norms : List ℕ) → ℕ
norms_refusal ns = cond (any_zero ns) 6 (cond (any_above 512 ns) 7 0)

unfoldable pub table_refusal : Table → ℕ
table_refusal t = norms_refusal (norms t)

-- REFUSAL 8 of a plan: it names a job that is not there
unfoldable pub jobs_refusal : (jobs : ℕ) → (plan : List ℕ) → ℕ
jobs_refusal n p = cond (all_below n p) 0 8

-- REFUSAL 9 of a plan: its norm is above 4,096
unfoldable pub sum_refusal : (norms : List ℕ) → (plan : List ℕ) → ℕ
sum_refusal ns p = cond (leb (sum_of ns p) 4096) 0 9

-- REFUSALS 8 AND 9 of a plan
unfoldable pub plan_refusal : Table → (plan : List ℕ) → ℕ
plan_refusal t p = or_else (jobs_refusal t.jobs p) (sum_refusal (norms t) p)

-- REFUSALS 8 AND 9 of two plans: 8 of the left, 8 of the right, 9 of the left, 9 of the right
unfoldable pub plans_refusal : Table → (left right : List ℕ) → ℕ
plans_refusal t p q =
    or_else (jobs_refusal t.jobs p)
    (or_else (jobs_refusal t.jobs q) (or_else (sum_refusal (norms t) p) (sum_refusal (norms t) q)))

-- rules keep to the table
abbrev pub Closed : Table → Type 0
Closed t = (j a : ℕ) (w : List ℕ) → HasRule t j a w → over t w ≡ true

-- AN ACCEPTED TABLE: rules keep to it, and every job has a norm, of at most 512
pub record Accepted (t : Table) : Type 0 where
  pub good : Good t (norms t)
  pub small : (j : ℕ) → get_or (norms t) j 0 ≤ 512

-- AN ACCEPTED PLAN names jobs of the table only and has a norm of at most 4,096
pub record AcceptedPlan (t : Table) (p : List ℕ) : Type 0 where
  pub over_table : over t p ≡ true
  pub norm_small : norm t p ≤ 4096

-- an array with a number for each job
pub record Row (n : ℕ) (ns : List ℕ) : Type 0 where
  pub size : length ns ≡ 24
  pub jobs : n ≤ 24
