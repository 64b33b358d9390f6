-- `row_print`: the jobs before the next are read.
use Rattle.std.proofs.Common.{take}
use Rattle.fingerprints.specs.Fingerprints.{IsPrint}
use Rattle.fingerprints.proofs.row_print.Given as goal

abbrev pub invariant-loop-job : goal.invariant-loop-job
invariant-loop-job l = IsPrint (take l.job-index l.row) l.print.value l.print.power
