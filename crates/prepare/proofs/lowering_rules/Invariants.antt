-- From the last rule to the first, each place holds the first norm-lowering rule so far. Assumes nothing.
use Rattle.std.proofs.Common.{◌≡◌, length}
use Rattle.prepare.specs.Prepared.{lowers}
use Rattle.prepare.proofs.FirstRuleArray.{Filled}
use Rattle.prepare.proofs.lowering_rules.Given as goal

abbrev pub invariant-loop-i : goal.invariant-loop-i
invariant-loop-i l = record { size : length l.low ≡ 24; filled : Filled (lowers l.table.norms.now) l.rules.bytes.now l.low l.i }
