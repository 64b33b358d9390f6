-- What is left of the two plans has their leftmost difference. Assumes nothing.
use Rattle.std.proofs.Common.{◌+◌, ◌-◌, ◌≤◌, length, drop}
use mathlib.Core.Bool.{cond}
use Rattle.bpa.specs.Method.{expand}
use Rattle.rows.specs.Rows.{rows_of}
use Rattle.differences.proofs.Cursors.{At, Between}
use Rattle.differences.proofs.first_difference.Given as goal

abbrev pub invariant-places : goal.invariant-places
invariant-places l =
    (l.i ≤ length l.p)
    × At (rows_of l.rows) l.rows.bytes.now l.p l.q l.rest (expand (rows_of l.rows) (drop l.i l.p)) l.behind l.t l.at l.end

abbrev pub decreases-places : goal.decreases-places
decreases-places l = length l.p - l.i

abbrev pub invariant-loop-k : goal.invariant-loop-k
invariant-loop-k l = Between (rows_of l.rows) l.rows.bytes.now l.p l.q l.rest l.i l.behind l.t l.at l.end l.k l.stop

-- places of the row, jobs of the right plan, and the row behind it
abbrev pub decreases-loop-k : goal.decreases-loop-k
decreases-loop-k l = (l.stop - l.k) + (length l.q - l.t) + cond l.behind 0 1
