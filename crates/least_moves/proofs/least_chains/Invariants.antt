-- From the last rule to the first, the chains of the rules that `least_moves::least_chains` has passed are whole. Assumes nothing.
use Rattle.std.proofs.Common.{◌≡◌, ◌≤◌, ◌<◌, ℕ, length}
use Rattle.rules.specs.Places.{rule_at, rule_count}
use Rattle.least_moves.proofs.ChainsMade.{Begun, Linked}
use Rattle.least_moves.proofs.least_chains.Given as goal

abbrev pub invariant-loop-i : goal.invariant-loop-i
invariant-loop-i l = record {
  begun : Begun l.table.rules.now l.table.norms.now l.bound l.first l.i;
  linked : Linked l.table.rules.now l.table.norms.now l.bound l.next l.i;
  moves : (k : ℕ) → l.i ≤ k → k < rule_count l.table.rules.now → (rule_at l.table.rules.now k).move < 65536;
  first_size : length l.first ≡ 24;
}
