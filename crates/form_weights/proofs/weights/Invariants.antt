-- The jobs that the loop has passed have their weights.
use Rattle.rows.specs.Rows.{rows_of}
use Rattle.form_weights.specs.Weighed.{Weighed}
use Rattle.form_weights.proofs.weights.Given as goal

abbrev pub invariant-loop-job : goal.invariant-loop-job
invariant-loop-job l = Weighed l.job l.table.norms.now (rows_of l.rows) l.weights
