-- Along the chain of the job, no job after a rule passed has moved. Assumes nothing.
use Rattle.std.proofs.Common.{◌-◌}
use Rattle.settled.proofs.ChainsPassed.{Passed}
use Rattle.rules.specs.Places.{rule_count}
use Rattle.facts.specs.Columns.{bytes_in}
use Rattle.settled.proofs.is_untouched.Given as goal

abbrev pub invariant-loop-k : goal.invariant-loop-k
invariant-loop-k l = Passed l.facts l.moved l.job l.k

abbrev pub decreases-loop-k : goal.decreases-loop-k
decreases-loop-k l = rule_count (bytes_in l.facts) - l.k
