-- Rounds of new rows in an area of two halves. Assumes nothing: these are definitions.
use Rattle.std.specs.Prelude.{◌≡◌, Bool, true, false, List, ℕ, ◌<◌, length}
use Rattle.bpa.specs.Method as method
use Rattle.decompositions.specs.Decompositions.{Alone, Final}
use Rattle.rows.specs.Region.{row, Within, old_half}
use Rattle.facts.specs.Columns.{norms_in, jobs_in, table_by}
use Rattle.facts.specs.declared.Facts.{Facts}
use Rattle.new_rows.specs.NewRows.{NewRows}

-- whether a prime is new
pub record PrimesFound (jobs : ℕ) (d e : method.Rows) (out : Bool) : Type 0 where
  pub found : out ≡ true → (j : ℕ) × (j < jobs) × Alone e j × (Alone d j → ⊥)
  pub none : out ≡ false → (j : ℕ) → j < jobs → Alone e j → Alone d j

-- a round
pub record Rounded (facts : Facts) (old_lens old lens : List ℕ) (moved : List Bool) (region : List ℕ) (out : Bool) : Type 0 where
  pub rows : NewRows facts old_lens old lens moved region
  pub primes : PrimesFound (jobs_in facts) (row old_lens old) (row lens region) out

-- THE ROWS THAT THE ROUNDS END WITH
pub record FinalIn (facts : Facts) (lens area : List ℕ) : Type 0 where
  pub size : length area ≡ 24576
  pub within : Within (jobs_in facts) lens (old_half area)
  pub final : Final (table_by facts) (norms_in facts) (row lens (old_half area))
