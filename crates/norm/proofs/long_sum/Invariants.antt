-- The numbers passed are counted, and their sum is small. Assumes nothing.
use Rattle.std.proofs.Common.{◌≡◌, ◌+◌, ◌≤◌, drop}
use Rattle.bpa.specs.Norms.{sum_of}
use Rattle.norm.proofs.long_sum.Given as goal

abbrev pub invariant-loop-job : goal.invariant-loop-job
invariant-loop-job l = record {
  small : l.sum ≤ 4096;
  counted : l.sum + sum_of l.numbers (drop l.job-index l.plan) ≡ sum_of l.numbers l.plan;
}
