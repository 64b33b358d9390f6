use Rattle.facts.specs.Columns.{norms_in, order_in}
use Rattle.std.proofs.Common.{get_or}
use Rattle.halves.proofs.FirstRegion.{Filling}
use Rattle.halves.proofs.first_rows.Given as goal

abbrev pub invariant-loop-job : goal.invariant-loop-job
invariant-loop-job l = Filling (norms_in l.facts) (get_or (order_in l.facts) 0 0) l.lens l.rows l.job
