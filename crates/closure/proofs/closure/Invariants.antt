-- The jobs that are done are reached and not pending: as a number they grow each turn.
use Prim.Native.Nat.{◌-◌}
use Rattle.closure.proofs.PendingJobs.{Closing}
use Rattle.closure.proofs.closure.Given as goal

abbrev pub invariant-loop-pending : goal.invariant-loop-pending
invariant-loop-pending l = Closing l.rows l.fn.from l.reached l.pending

abbrev pub decreases-loop-pending : goal.decreases-loop-pending
decreases-loop-pending l = 16777216 - (l.reached - l.pending)
