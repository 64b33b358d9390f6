-- The jobs of the table of which the facts speak, plans over it, and plans of earlier jobs. Assumes nothing.
use Rattle.std.proofs.Common.{◌≡◌, true, List, ℕ, ◌<◌, get_or, arith}
use Rattle.bpa.specs.Plans.{Table, over, all_below}
use Rattle.bpa.specs.Norms.{sum_of}
use Rattle.bpa.proofs.Basics.Order.{less_precedes}
use Rattle.bpa.proofs.Basics.EachJob.{Each, each_over, each_norm}
use Rattle.rules.specs.Places.{table_of}
use Rattle.decompositions.proofs.NewRows.{Earlier}
use Rattle.facts.specs.Columns.{jobs_in, table_by}
use Rattle.facts.specs.declared.Facts.{Facts}

module _ (facts : Facts) where
  pub job_by : (j : ℕ) → j < jobs_in facts → j < (table_by facts).jobs
  unfolding table_of
  job_by j h = h

  pub job_below : (j : ℕ) → j < (table_by facts).jobs → j < jobs_in facts
  unfolding table_of
  job_below j h = h

  pub over_by : (p : List ℕ) → all_below (jobs_in facts) p ≡ true → over (table_by facts) p ≡ true
  unfolding table_of over
  over_by p h = h

  pub over_below : (p : List ℕ) → over (table_by facts) p ≡ true → all_below (jobs_in facts) p ≡ true
  unfolding table_of over
  over_below p h = h

-- a plan whose norm is below the norm of a job has earlier jobs only
pub lesser_plan : (t : Table) (ns : List ℕ) (P : ℕ → Type 0) (y : ℕ) (p : List ℕ) → Earlier t ns y P → over t p ≡ true →
    sum_of ns p < get_or ns y 0 → Each P p
lesser_plan t ns P y p h o l j m = h j (each_over t p o j m) (less_precedes ns j y (omega (arith, each_norm ns p j m)))
