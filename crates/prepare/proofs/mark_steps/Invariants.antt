-- From the last rule to the first, the marks are those of the rules passed. Assumes nothing.
use Rattle.std.proofs.Common.{◌≡◌, length}
use Rattle.prepare.proofs.Marks.{Marking}
use Rattle.prepare.proofs.mark_steps.Given as goal

abbrev pub invariant-loop-i : goal.invariant-loop-i
invariant-loop-i l = record { size : length l.marks ≡ 24; marked : Marking l.rules.bytes.now l.table.norms.now l.marks l.i }
