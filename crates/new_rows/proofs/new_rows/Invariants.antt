use Rattle.std.proofs.Common.{◌≡◌}
use Rattle.new_rows.proofs.GrowingRows.{Growing}
use Rattle.new_rows.proofs.new_rows.Given as goal

-- the rows grow, and no fingerprint changes
abbrev pub invariant-loop-place : goal.invariant-loop-place
invariant-loop-place l = record {
  growing : Growing l.facts l.old l.initial.stale l.round.lens l.stale l.round.moved l.bytes l.place;
  prints_kept : l.round.prints ≡ l.initial.round.prints;
}
