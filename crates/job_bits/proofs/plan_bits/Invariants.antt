-- The bits are the jobs that the loop has passed.
use lib.ListN.{take}
use Rattle.job_bits.specs.JobBits.{PlanBits}
use Rattle.job_bits.proofs.plan_bits.Given as goal

abbrev pub invariant-loop-job : goal.invariant-loop-job
invariant-loop-job l = PlanBits (take l.job-index l.plan) l.bits
