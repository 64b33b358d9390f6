-- What the rounds look up, as lists: columns of numbers about jobs and rules, and what is true of them. Assumes nothing: these are definitions.
use Rattle.std.specs.Prelude.{◌≡◌, List, ℕ, ◌≤◌, ◌<◌, get_or, take}
use Rattle.bpa.specs.Plans.{Table}
use Rattle.bpa.specs.Norms.{Good}
use Rattle.rules.specs.Places.{table_of}
use Rattle.rules.specs.Lists.{GoodList}
use Rattle.prepare.specs.Prepared.{RowNorms, Lowered, Chained, Marked}
use Rattle.order.specs.Order.{ordered}
use Rattle.facts.specs.declared.Facts.{Facts}

-- the table of which they speak: how many jobs, the bytes of its rules, the norms of its jobs
abbrev pub jobs_in : Facts → ℕ
jobs_in facts = facts.table.jobs

abbrev pub bytes_in : Facts → List ℕ
bytes_in facts = facts.table.rules.now

abbrev pub norms_in : Facts → List ℕ
norms_in facts = facts.table.norms.now

abbrev pub table_by : Facts → Table
table_by facts = table_of (jobs_in facts) (bytes_in facts)

-- its jobs in order
abbrev pub order_in : Facts → List ℕ
order_in facts = facts.order

-- WHAT EVERY FUNCTION OF A ROUND STANDS ON: a good list of rules whose norms, row norms, chains, marks and order are looked up
pub record Tables (facts : Facts) : Type 0 where
  pub list : GoodList (jobs_in facts) (bytes_in facts)
  pub good : Good (table_by facts) (norms_in facts)
  pub small : (j : ℕ) → j < jobs_in facts → get_or (norms_in facts) j 0 ≤ 512
  pub row_norms : RowNorms (bytes_in facts) (norms_in facts) facts.sums
  pub chained : Chained (bytes_in facts) facts.first facts.next
  pub marked : Marked (jobs_in facts) (bytes_in facts) (norms_in facts) facts.marks
  pub lowered : Lowered (jobs_in facts) (bytes_in facts) (norms_in facts) facts.low
  pub ordered_by : take (jobs_in facts) (order_in facts) ≡ ordered (norms_in facts) (jobs_in facts)

-- the facts of a list of rules with its norms
pub record FactsAbout (jobs : ℕ) (rs norms : List ℕ) (facts : Facts) : Type 0 where
  pub count : jobs_in facts ≡ jobs
  pub rules_are : bytes_in facts ≡ rs
  pub norms_are : norms_in facts ≡ norms
