-- The level is cleared as far as the loop has come.
use Rattle.levels.specs.Levels.{LevelCleared}
use Rattle.levels.proofs.clear_level.Given as goal

abbrev pub invariant-loop-job : goal.invariant-loop-job
invariant-loop-job l = LevelCleared l.job l.left l.initial.cells l.cells
