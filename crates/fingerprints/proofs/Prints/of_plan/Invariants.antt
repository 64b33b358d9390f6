-- `Prints::of_plan`: the jobs before the next are read.
use Rattle.fingerprints.proofs.Digits.{Joining}
use Rattle.fingerprints.proofs.Prints.of_plan.Given as goal

abbrev pub invariant-loop-job : goal.invariant-loop-job
invariant-loop-job l = Joining l.self l.plan l.print l.job-index
