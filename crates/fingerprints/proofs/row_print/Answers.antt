-- `row_print`: each job is a digit behind those before it.
use Rattle.std.proofs.Common.{arith, refl, sym}
use Rattle.fingerprints.proofs.PrintLaws.{number_none, power_none}
use Rattle.fingerprints.proofs.Digits.{reading_more}
use Rattle.fingerprints.proofs.row_print.Goals as goal

pub loop-job-init : goal.loop-job-init
loop-job-init c = record { value_is = sym number_none; power_is = sym power_none }

pub loop-job-preserved : goal.loop-job-preserved
loop-job-preserved c =
    reading_more c.args.row.now c.loop-job.job-index c.from.result c.loop-job.print _ c.then-print.result c.loop-job.invariant c.loop-job-test.true
    c.from.ensures (omega arith) refl refl c.then-print.ensures
