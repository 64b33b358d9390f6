-- `rule_number`: the jobs of a list are below 24, and a fingerprint below the modulus.
use Rattle.std.proofs.Common.{arith}
use Rattle.bpa.proofs.Basics.JobsBelow.{below_more}
use Rattle.fingerprints.proofs.Digits.{modulus_is}
use Rattle.fingerprints.proofs.rule_number.Goals as goal

pub of_plan-requires : goal.of_plan-requires
of_plan-requires c = below_more c.list-rules.result.jobs 24 c.after.result.now c.list-rules.result.good.jobs c.after.ensures.jobs

pub overflow_add-result : goal.overflow_add-result
overflow_add-result c = omega (arith, modulus_is)
