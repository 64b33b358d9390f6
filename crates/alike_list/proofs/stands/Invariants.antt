-- The move was found, or stands in what is left, as often as in the whole row. Assumes nothing.
use Rattle.std.proofs.Common.{◌≡◌, ◌||◌, drop}
use Rattle.alike.specs.Alike.{stands_in}
use Rattle.alike_list.proofs.stands.Given as goal

abbrev pub invariant-loop-known : goal.invariant-loop-known
invariant-loop-known l = (l.found || stands_in (drop l.known-index l.row) l.action) ≡ stands_in l.row l.action
