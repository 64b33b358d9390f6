-- One turn of the loop over the earlier jobs: the two jobs, and what is known of them. Assumes nothing.
use mathlib.Core.Path.{◌≡◌, sym, subst}
use mathlib.Core.Bool.{true}
use mathlib.Core.List.{List}
use Prim.Native.Nat.{ℕ, ◌+◌, ◌-◌, ◌≤◌, ◌<◌}
use native.Mathlib.Omega.{arith}
use lib.ListN.{get_or}
use lib.Seq.{slice}
use Rattle.bpa.specs.Method.{precedes}
use Rattle.bpa.proofs.Basics.Order.{precedes_le}
use Rattle.bpa.proofs.Basics.Plans.{norm_positive}
use Rattle.rows.specs.Rows.{rows_of}
use Rattle.rows.specs.declared.Rows.{Rows}
use Rattle.facts.specs.Columns.{norms_in, order_in, jobs_in, table_by}
use Rattle.facts.specs.declared.Facts.{Facts}
use Rattle.facts.proofs.TableFacts.{tables, jobs_few, place_job, place_rises}
use Rattle.fingerprints.specs.declared.Prints.{Prints}
use Rattle.candidates.specs.Candidates.{CanLower, Lowered, LoweredRow}
use Rattle.candidates.proofs.JobsOfTable.{job_by}
use Rattle.decomposing.specs.Decomposing.{Decomposable, EarlierRows}
use Rattle.decomposing.proofs.JobsTried.{Tried, tried_next}

-- the job y whose row is worked out
module _ {facts : Facts} {prints : Prints} {old new : Rows} {place : ℕ} (h : Decomposable facts prints old new place) where
  pub place_small : place < 24
  place_small = omega (arith, h.inside, jobs_few facts)

  module _ (y : ℕ) (is : y ≡ get_or (order_in facts) place 0) where
    own_job : y < jobs_in facts
    own_job = subst (λ (j : ℕ). j < jobs_in facts) (sym is) (place_job facts place h.inside)

    pub own_small : y < 24
    own_small = omega (arith, own_job, jobs_few facts)

    own_earlier : EarlierRows facts (rows_of old) (rows_of new) y
    own_earlier = subst (EarlierRows facts (rows_of old) (rows_of new)) (sym is) h.earlier

    pub can_lower : CanLower facts new y
    can_lower = record { is_job = own_job; within = h.new_within; earlier = λ j l k. (own_earlier j l k).1 }

-- what is known as the job x at place k is tried: the lowered row stands up to `end`, and the cut before the jobs that were tried
pub record Turn (facts : Facts) (prints : Prints) (old new : Rows) (place y : ℕ) (out : List ℕ) (end k at norm x : ℕ) : Type 0 where
  pub asked : Decomposable facts prints old new place
  pub own : y ≡ get_or (order_in facts) place 0
  pub written : LoweredRow facts (rows_of new) y out end
  pub tried : Tried facts (rows_of old) (rows_of new) place y (slice 1 end out) (k + 1) at norm
  pub other : x ≡ get_or (order_in facts) k 0

-- the place that is next is the last of those left
pub turn : {facts : Facts} {prints : Prints} {old new : Rows} {place y : ℕ} {out : List ℕ} {end left at norm x : ℕ} →
    Decomposable facts prints old new place → y ≡ get_or (order_in facts) place 0 → LoweredRow facts (rows_of new) y out end →
    Tried facts (rows_of old) (rows_of new) place y (slice 1 end out) left at norm → 0 < left → x ≡ get_or (order_in facts) (left - 1) 0 →
    Turn facts prints old new place y out end (left - 1) at norm x
turn {facts} {prints} {old} {new} {place} {y} {out} {end} {left} {at} {norm} asked own written tried some other = record {
  asked = asked;
  own = own;
  written = written;
  tried = tried_next facts (rows_of old) (rows_of new) place y (slice 1 end out) left at norm tried some;
  other = other;
}

module _ {facts : Facts} {prints : Prints} {old new : Rows} {place y : ℕ} {out : List ℕ} {end k at norm x : ℕ}
    (u : Turn facts prints old new place y out end k at norm x) where
  abbrev ns : List ℕ
  ns = norms_in facts

  more : k < place
  more = omega (arith, u.tried.inside)

  pub few : jobs_in facts ≤ 24
  few = jobs_few facts

  pub y_job : y < jobs_in facts
  y_job = own_job u.asked y u.own

  pub x_job : x < jobs_in facts
  x_job =
      subst (λ (j : ℕ). j < jobs_in facts) (sym u.other)
      (place_job facts k (omega (arith, u.asked.inside, more)))

  pub y_small : y < 24
  y_small = omega (arith, few, y_job)

  pub x_small : x < 24
  x_small = omega (arith, few, x_job)

  pub x_before : precedes ns x y ≡ true
  x_before = rw (u.other, u.own) (place_rises facts k place more u.asked.inside)

  pub x_norm : 1 ≤ get_or ns x 0
  x_norm = norm_positive (table_by facts) ns (tables facts).good x (job_by facts x x_job)

  pub x_least : get_or ns x 0 ≤ get_or ns y 0
  x_least = precedes_le ns x y x_before

  pub y_earlier : EarlierRows facts (rows_of old) (rows_of new) y
  y_earlier = own_earlier u.asked y u.own
