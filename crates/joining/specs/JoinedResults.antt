-- Two sources of tables, joined, as results. Assumes nothing: these are definitions.
use Rattle.std.specs.Prelude.{◌≡◌, ℕ, Result, Ok, Err}
use Rattle.bpa.specs.Plans.{Table}
use Rattle.answer.specs.declared.Refusal.{Refusal}
use Rattle.table.specs.Sources.{Source, table_held}
use Rattle.table.specs.declared.held.HeldTable.{HeldTable}
use Rattle.joined.specs.Joined.{joined}
use Rattle.joining.specs.JoinedBytes.{tables_refusal}

-- THE RESULT z OF A FIRST SOURCE x AND A SECOND ONE with refusal o and table u, which is read once the first is not refused: the first's refusal, else
-- the second's, else 15 or the joined table
pub data Joins (o : ℕ) (u : Table) (x z : Result HeldTable Refusal) : Type 0 where
  first_refused : (r : Refusal) → x ≡ Err r → z ≡ Err r → Joins o u x z
  second_refused : (h : HeldTable) (y : Result HeldTable Refusal) (r : Refusal) → x ≡ Ok h → Source o u y → y ≡ Err r → z ≡ Err r → Joins o u x z
  both_held : (h k : HeldTable) (y : Result HeldTable Refusal) → x ≡ Ok h → Source o u y → y ≡ Ok k →
      Source (tables_refusal (table_held h) (table_held k)) (joined (table_held h) (table_held k)) z → Joins o u x z
