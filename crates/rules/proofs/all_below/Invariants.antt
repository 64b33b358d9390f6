-- All are below if the greatest passed and those that are left are. Assumes nothing.
use Rattle.rules.proofs.Greatest.{Greatest}
use Rattle.rules.proofs.all_below.Given as goal

abbrev pub invariant-loop-byte : goal.invariant-loop-byte
invariant-loop-byte l = Greatest l.bytes l.most l.byte-index
