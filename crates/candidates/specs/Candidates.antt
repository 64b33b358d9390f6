-- Jobs that may decompose another, a pair of them, and the lowered row. Assumes nothing: these are definitions.
use Rattle.std.specs.Prelude.{◌≡◌, true, List, ℕ, ◌+◌, ◌*◌, ◌≤◌, ◌<◌, length, get_or, drop}
use Rattle.std.proofs.Math.Seq.{slice}
use Rattle.bpa.specs.Plans.{over, all_below}
use Rattle.bpa.specs.Norms.{sum_of}
use Rattle.bpa.specs.Method as method
use Rattle.decompositions.specs.Decompositions.{Alone, Decomposed}
use Rattle.rows.specs.Region.{Within}
use Rattle.rows.specs.Rows.{rows_of}
use Rattle.rows.specs.declared.Rows.{Rows}
use Rattle.facts.specs.Columns.{norms_in, jobs_in, table_by}
use Rattle.facts.specs.declared.Facts.{Facts}
use Rattle.fingerprints.specs.Fingerprints.{PlanPrint}
use Rattle.fingerprints.specs.declared.Prints.{Prints}
use Rattle.rule_filter.specs.declared.Pair.{Pair}

-- a job that may decompose another: prime in the new rows, with an old row that begins with the same job, and the same mark
pub record Likely (facts : Facts) (old : Rows) (e : method.Rows) (y x : ℕ) : Type 0 where
  pub front : get_or old.bytes.now (512 * y) 0 ≡ get_or old.bytes.now (512 * x) 0
  pub mark : get_or facts.marks y 0 ≡ get_or facts.marks x 0
  pub prime : Alone e x

-- what a pair asks: two jobs, and a plan of which the tail has a fingerprint
pub record CanPair (facts : Facts) (parts : List ℕ) (y x : ℕ) : Type 0 where
  pub y_job : y < 24
  pub x_job : x < 24
  pub norms : get_or (norms_in facts) x 0 ≤ get_or (norms_in facts) y 0
  pub some : 1 ≤ length parts
  pub below : all_below 24 (drop 1 parts) ≡ true

-- a pair of which y asks: its tail behind x, and where y's old row goes on behind x's
pub record PairOf (facts : Facts) (prints : Prints) (old : Rows) (parts : List ℕ) (y x : ℕ) (pair : Pair) : Type 0 where
  pub direction : pair.forward ≡ true
  pub mine_is : pair.mine ≡ y
  pub other_is : pair.other ≡ x
  pub norm_is : pair.norm ≡ get_or (norms_in facts) y 0
  pub gap_is : get_or (norms_in facts) x 0 + pair.gap ≡ pair.norm
  pub tail_is : PlanPrint prints (drop 1 parts) pair.tail.value pair.tail.power
  pub from_is : get_or old.lens.now x 0 ≤ get_or old.lens.now y 0 → pair.from ≡ 512 * y + get_or old.lens.now x 0
  pub ordered : pair.from ≤ pair.to
  pub to_is : pair.to ≡ 512 * y + get_or old.lens.now y 0

-- what writing the lowered row of y asks: its jobs have new rows that keep the norm
pub record CanLower (facts : Facts) (new : Rows) (y : ℕ) : Type 0 where
  pub is_job : y < jobs_in facts
  pub within : Within (jobs_in facts) new.lens.now new.bytes.now
  pub earlier : (j : ℕ) → j < jobs_in facts → method.precedes (norms_in facts) j y ≡ true →
      Decomposed (table_by facts) (norms_in facts) (rows_of new) j

-- the lowered row: the expansion by the new rows of the jobs after y's first norm-lowering rule, which has one less than y's norm
pub record Lowered (facts : Facts) (e : method.Rows) (y : ℕ) (low : List ℕ) : Type 0 where
  pub is : low ≡ method.expand e (method.lowering (norms_in facts) (table_by facts).rules y)
  pub inside : over (table_by facts) low ≡ true
  pub norm : sum_of (norms_in facts) low + 1 ≡ get_or (norms_in facts) y 0

-- it stands in an area of 512 bytes up to place r, with one place free before it
pub record LoweredRow (facts : Facts) (e : method.Rows) (y : ℕ) (out : List ℕ) (r : ℕ) : Type 0 where
  pub size : length out ≡ 512
  pub some : 1 ≤ r
  pub short : r ≤ 512
  pub low : Lowered facts e y (slice 1 r out)
