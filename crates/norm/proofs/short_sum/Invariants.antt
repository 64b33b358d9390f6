-- The numbers passed are counted, and their sum is small. Assumes nothing.
use Rattle.std.proofs.Common.{◌≡◌, ◌+◌, ◌*◌, ◌≤◌, drop}
use Rattle.bpa.specs.Norms.{sum_of}
use Rattle.norm.proofs.short_sum.Given as goal

abbrev pub invariant-loop-job : goal.invariant-loop-job
invariant-loop-job l = record {
  small : l.sum ≤ 65535 * l.job-index;
  counted : l.sum + sum_of l.numbers (drop l.job-index l.plan) ≡ sum_of l.numbers l.plan;
}
