-- The rules are added as far as the loop has come.
use mathlib.Core.Path.{◌≡◌}
use mathlib.Core.List.{List}
use Prim.Native.Nat.{ℕ}
use lib.ListN.{length}
use Rattle.levels.specs.Levels.{LevelBy}
use Rattle.levels.proofs.add_rules.Given as goal

abbrev pub invariant-loop-i : goal.invariant-loop-i
invariant-loop-i l = record {
  size : length l.cells ≡ length l.initial.cells;
  added : (log : List ℕ) → LevelBy l.rules.jobs l.rules.bytes.now log l.left l.action 0 l.initial.cells →
      LevelBy l.rules.jobs l.rules.bytes.now log l.left l.action l.i l.cells;
}
