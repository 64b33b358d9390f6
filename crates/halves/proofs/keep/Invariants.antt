use Rattle.halves.proofs.KeptRows.{Keeping}
use Rattle.halves.proofs.keep.Given as goal

abbrev pub invariant-loop-job : goal.invariant-loop-job
invariant-loop-job l = Keeping l.jobs l.new.lens.now l.new.bytes.now l.initial.old l.old l.job
