-- After so many rounds. Assumes nothing.
use Rattle.rules.specs.Places.{table_of}
use Rattle.norm.proofs.NormsByRounds.{Holds}
use Rattle.norm.proofs.norms_of.Given as goal

abbrev pub invariant-loop : goal.invariant-loop
invariant-loop l = Holds (table_of l.rules.jobs l.rules.bytes.now) l.counter l.known
