-- What is true of all that is looked up about a table: the facts that its type keeps, as one, and what they say of each job that is looked up: its
-- places in the order, its norm-lowering rule, its mark. Assumes nothing.
use Rattle.std.proofs.Common.{◌≡◌, true, ℕ, ◌≤◌, ◌<◌, get_or}
use Rattle.bpa.specs.Norms.{sum_of}
use Rattle.bpa.specs.Method.{precedes, lowering}
use Rattle.bpa.proofs.Basics.SameSteps.{SameSteps}
use Rattle.rules.specs.Places.{rule_at, rule_count}
use Rattle.prepare.proofs.LentTables.{normed}
use Rattle.prepare.proofs.Marks.{same_mark}
use Rattle.order.proofs.OrderedJobs.{place_below, place_complete, place_rising, place_earlier}
use Rattle.facts.specs.declared.Facts.{Facts}
use Rattle.facts.specs.Columns.{norms_in, order_in, jobs_in, bytes_in, table_by, Tables}
use Rattle.facts.proofs.RepeatedRules.{chained}

pub tables : (facts : Facts) → Tables facts
tables facts =
    let n = normed (jobs_in facts) (bytes_in facts) (norms_in facts) facts.table.list facts.table.exact facts.table.finite in
    record {
      list = n.list;
      good = n.good;
      small = n.small;
      row_norms = facts.row_norms;
      chained = chained (bytes_in facts) facts.first facts.next facts.chained;
      marked = facts.marked;
      lowered = facts.lowered;
      ordered_by = facts.ordered_by;
    }

module _ (facts : Facts) where
  pub jobs_few : jobs_in facts ≤ 24
  jobs_few = (tables facts).list.jobs

  -- THE ORDER: all jobs, each once, rising
  pub place_job : (k : ℕ) → k < jobs_in facts → get_or (order_in facts) k 0 < jobs_in facts
  place_job = place_below (norms_in facts) (order_in facts) (jobs_in facts) facts.ordered_by

  pub place_rises : (i k : ℕ) → i < k → k < jobs_in facts →
      precedes (norms_in facts) (get_or (order_in facts) i 0) (get_or (order_in facts) k 0) ≡ true
  place_rises = place_rising (norms_in facts) (order_in facts) (jobs_in facts) facts.ordered_by

  pub place_of_earlier : (i x : ℕ) → i < jobs_in facts → x < jobs_in facts →
      precedes (norms_in facts) x (get_or (order_in facts) i 0) ≡ true → (k : ℕ) × (k < i) × (get_or (order_in facts) k 0 ≡ x)
  place_of_earlier = place_earlier (norms_in facts) (order_in facts) (jobs_in facts) facts.ordered_by

  pub place_of_job : (j : ℕ) → j < jobs_in facts → (i : ℕ) × (i < jobs_in facts) × (get_or (order_in facts) i 0 ≡ j)
  place_of_job = place_complete (norms_in facts) (order_in facts) (jobs_in facts) facts.ordered_by

  -- THE FIRST NORM-LOWERING RULE of a job
  pub lowering_place : (y : ℕ) → y < jobs_in facts → get_or facts.low y 0 < rule_count (bytes_in facts)
  lowering_place y h = facts.lowered.inside y h

  pub lowering_row : (y : ℕ) → y < jobs_in facts →
      (rule_at (bytes_in facts) (get_or facts.low y 0)).after ≡ lowering (norms_in facts) (table_by facts).rules y
  lowering_row y h = facts.lowered.after y h

  -- THE MARK of a job: jobs with the same steps have the same
  pub marks_equal : (y x : ℕ) → y < jobs_in facts → x < jobs_in facts → SameSteps (table_by facts) (norms_in facts) y x →
      get_or facts.marks y 0 ≡ get_or facts.marks x 0
  marks_equal y x hy hx s =
      same_mark (jobs_in facts) (bytes_in facts) (norms_in facts) (tables facts).small facts.marks facts.marked y x s hy hx

  -- THE NORM of a rule's row
  pub row_norm : (i : ℕ) → i < rule_count (bytes_in facts) → get_or facts.sums i 0 ≡ sum_of (norms_in facts) (rule_at (bytes_in facts) i).after
  row_norm i h = (facts.row_norms.at i h).is
