-- SOURCES OF TABLES: whatever a table comes from, this is the door. Assumes nothing: these are definitions.
use Rattle.std.specs.Prelude.{◌≡◌, ℕ, take, Result, Ok}
use Rattle.bpa.specs.Plans.{Table}
use Rattle.rules.specs.Places.{table_of}
use Rattle.answer.specs.declared.Refusal.{Refusal}
use Rattle.answer.specs.Refusals.{refusal_of}
use Rattle.table.specs.declared.held.HeldTable.{HeldTable}

-- the table that is held
abbrev pub table_held : HeldTable → Table
table_held h = table_of h.jobs (take h.end h.rules)

-- A SOURCE, with its refusal f and its table t: the refusal, or the table if there is none
pub record Source (f : ℕ) (t : Table) (r : Result HeldTable Refusal) : Type 0 where
  pub refusal_is : refusal_of r ≡ f
  pub holds : (h : HeldTable) → r ≡ Ok h → table_held h ≡ t
