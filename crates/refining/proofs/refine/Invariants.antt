use Rattle.rows.specs.Region.{row}
use Rattle.facts.specs.Columns.{table_by}
use Rattle.decompositions.proofs.NoNewPrime.{composite}
use Rattle.refining.proofs.RoundLaws.{BeforeCopy}
use Rattle.refining.proofs.refine.Given as goal

abbrev pub invariant-rounds : goal.invariant-rounds
invariant-rounds l = BeforeCopy l.facts l.round.lens l.old l.round.moved l.new l.round.prints

-- how many jobs are not prime
abbrev pub decreases-rounds : goal.decreases-rounds
decreases-rounds l = composite (table_by l.facts) (row l.round.lens l.new)
