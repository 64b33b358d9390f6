-- What the front of the plan reaches.
use Prim.Native.Nat.{◌+◌}
use Rattle.following.proofs.PlanWalk.{Following}
use Rattle.following.proofs.follow.Given as goal

abbrev pub invariant-loop-job : goal.invariant-loop-job
invariant-loop-job l = Following l.cells l.plan l.left l.reach (l.job-index + 1)
