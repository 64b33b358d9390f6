-- What two rules leave, compared by the rows that are asked for. Assumes nothing: these are definitions.
use Rattle.std.specs.Prelude.{◌≡◌, Bool, true, false, List, ◌++◌, ℕ, ◌≤◌, length}
use Rattle.bpa.specs.Method as method
use Rattle.bpa.specs.Method.{expand}
use Rattle.rules.specs.Places.{rule_at}
use Rattle.rows.specs.declared.Rows.{Rows}
use Rattle.rows.specs.Region.{Within}
use Rattle.rule_filter.specs.declared.Pair.{Pair}

-- the rows by which a rule is answered, and what stands behind X by them: the new ones if it makes the norm of its job fall
unfoldable pub rows_for : (falls : Bool) → (old new : method.Rows) → method.Rows
rows_for true d e = e
rows_for false d e = d

unfoldable pub rest_for : (falls : Bool) → (old new : List ℕ) → List ℕ
rest_for true o n = n
rest_for false o n = o

-- the old and the new rows, X with its tail, and a part of the old rows
pub record BothRows (jobs : ℕ) (old new : Rows) (parts : List ℕ) (pair : Pair) : Type 0 where
  pub old_within : Within jobs old.lens.now old.bytes.now
  pub new_within : Within jobs new.lens.now new.bytes.now
  pub some : 1 ≤ length parts
  pub starts : pair.from ≤ pair.to
  pub inside : pair.to ≤ 12288

-- what rule r of Y and rule s of X leave, with a row behind it as it stands, is equal by the rows
abbrev pub LeftEqual : method.Rows → (rules rest : List ℕ) → (r s : ℕ) → Type 0
LeftEqual e rs rest r s = expand e (rule_at rs r).after ≡ expand e (rule_at rs s).after ++ rest
