-- The three cases of how many rows can follow.
use mathlib.Core.Path.{sym}
use native.Mathlib.Omega.{arith}
use Rattle.row_counts.proofs.CountedRows.{follow_none, follow_heavy, follow_left}
use Rattle.row_counts.proofs.followers.Goals.{then-weight-eq0-via-then-weight-eq0, then-weight-eq0-via-else-weight-eq0+then-whole-weight}
use Rattle.row_counts.proofs.followers.Goals as goal

pub returns-then-weight-eq0 : goal.returns-then-weight-eq0
returns-then-weight-eq0 c =
    elim c.then-weight-eq0.branch [
      | then-weight-eq0-via-then-weight-eq0 w ↦ sym (follow_none _ _ _ w.if-weight-eq0.true)
      | then-weight-eq0-via-else-weight-eq0+then-whole-weight w ↦ sym (follow_heavy _ _ _ w.if-whole-weight.true)
    ]

pub returns : goal.returns
returns c = sym (follow_left _ _ _ (omega arith) (omega arith))
