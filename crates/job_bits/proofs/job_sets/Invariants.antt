-- The sets of each job have what the rules that the loop has passed say.
use mathlib.Core.Path.{◌≡◌}
use lib.ListN.{length}
use Rattle.job_bits.specs.JobBits.{RuleSets}
use Rattle.job_bits.proofs.job_sets.Given as goal

abbrev pub invariant-loop-i : goal.invariant-loop-i
invariant-loop-i l = record {
  rows_long : length l.sets.rows ≡ 24;
  fronts_long : length l.sets.fronts ≡ 24;
  passed : RuleSets l.rules.bytes.now l.i l.sets;
}
