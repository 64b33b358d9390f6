-- What `rule_runs::make_run` has written behind the rule's move, with the first runs of the jobs on the stack, is the first run of the jobs after
-- the rule. Assumes nothing.
use Rattle.std.proofs.Common.{◌+◌, ◌*◌, ◌-◌}
use Rattle.bpa.specs.Norms.{sum_of}
use Rattle.rules.specs.Places.{rule_at}
use Rattle.rule_runs.proofs.RunWalk.{Walking}
use Rattle.rule_runs.proofs.make_run.Given as goal

abbrev pub invariant-loop-top : goal.invariant-loop-top
invariant-loop-top l =
    let table = l.kept.table in
    Walking table.jobs table.rules.now table.norms.now (rule_at table.rules.now l.rule).after (l.at + 2) l.initial.made l.stack l.top l.to l.made

abbrev pub decreases-loop-top : goal.decreases-loop-top
decreases-loop-top l = l.at + 2 + 2 * sum_of l.kept.table.norms.now (rule_at l.kept.table.rules.now l.rule).after - l.to
