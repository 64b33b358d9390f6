use Rattle.std.proofs.Common.{ℕ, ◌<◌}
use Rattle.decompositions.specs.Decompositions.{Alone}
use Rattle.rows.specs.Rows.{rows_of}
use Rattle.refining.proofs.new_prime.Given as goal

-- no job so far is a new prime
abbrev pub invariant-loop-job : goal.invariant-loop-job
invariant-loop-job l = (j : ℕ) → j < l.job → Alone (rows_of l.new) j → Alone (rows_of l.old) j
