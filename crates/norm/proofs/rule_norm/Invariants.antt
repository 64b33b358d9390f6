-- The norms of the jobs passed are counted, and their sum is small. Assumes nothing.
use Rattle.std.proofs.Common.{◌+◌, ◌*◌, ◌≤◌}
use Rattle.norm.proofs.RuleNorm.{Counted}
use Rattle.norm.proofs.rule_norm.Given as goal

abbrev pub invariant-loop-job : goal.invariant-loop-job
invariant-loop-job l = record {
  small : l.sum ≤ 1 + 65535 * l.job-index;
  counted : Counted l.norms l.after l.sum l.job-index;
}
