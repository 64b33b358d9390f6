-- The levels are known as far as the loop has come.
use mathlib.Core.Path.{◌≡◌}
use lib.ListN.{length}
use Rattle.rules.specs.Places.{table_of}
use Rattle.following.specs.Followed.{KnownCells}
use Rattle.levels.proofs.fill.Given as goal

abbrev pub invariant-loop-left : goal.invariant-loop-left
invariant-loop-left l = record {
  size : length l.cells ≡ length l.fn.cells;
  known : KnownCells (table_of l.rules.jobs l.rules.bytes.now) l.log l.left l.cells;
}
