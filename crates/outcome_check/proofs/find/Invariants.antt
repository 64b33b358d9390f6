-- What the way of the rule leads to is still ahead, and the slots on it rise. Assumes nothing.
use Rattle.std.proofs.Common.{◌-◌}
use Rattle.outcome_check.proofs.Searches.{Searching}
use Rattle.outcome_check.proofs.find.Given as goal

abbrev pub invariant-loop-i : goal.invariant-loop-i
invariant-loop-i l = Searching l.rules.bytes.now l.slots l.i l.slot l.rest

abbrev pub decreases-loop-i : goal.decreases-loop-i
decreases-loop-i l = 2040 - l.slot
