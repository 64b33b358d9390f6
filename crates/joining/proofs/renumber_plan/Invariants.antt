-- The jobs so far stand renumbered at the front. Assumes nothing.
use Rattle.std.proofs.Common.{◌≡◌, take}
use Rattle.area.specs.Areas.{put}
use Rattle.joined.specs.Joined.{renumbered}
use Rattle.joining.proofs.renumber_plan.Given as goal

abbrev pub invariant-loop-i : goal.invariant-loop-i
invariant-loop-i l = l.out ≡ put 0 (renumbered l.jobs (take l.i l.plan)) l.fn.out
