-- The run by the rule that `earliest_rule::first_rule` has found so far is the earliest of those passed. Assumes nothing.
use Rattle.std.proofs.Common.{◌≡◌, ◌≤◌, ◌-◌, length}
use Rattle.rules.specs.Places.{rule_at}
use Rattle.earliest_rule.proofs.EarliestRule.{Choosing}
use Rattle.earliest_rule.proofs.first_rule.Given as goal

abbrev pub invariant-loop-i : goal.invariant-loop-i
invariant-loop-i l = record {
  choosing : let table = l.kept.table in Choosing table.jobs table.rules.now table.norms.now (rule_at table.rules.now l.start).job l.n l.best l.rule l.i;
  made_room : length l.made ≡ 1024;
  best_room : length l.best ≡ 1024;
  room : l.n ≤ 1024;
}

abbrev pub decreases-loop-i : goal.decreases-loop-i
decreases-loop-i l = l.total - l.i
