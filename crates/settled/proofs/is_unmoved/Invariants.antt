-- No job passed has moved. Assumes nothing.
use Rattle.std.proofs.Common.{◌≡◌, false, ℕ, ◌<◌, get_or}
use Rattle.settled.proofs.is_unmoved.Given as goal

abbrev pub invariant-loop-job : goal.invariant-loop-job
invariant-loop-job l = (k : ℕ) → k < l.job-index → get_or l.moved (get_or l.row k 0) false ≡ false
