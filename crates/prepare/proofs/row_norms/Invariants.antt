-- Each place passed holds the norm of its rule's row. Assumes nothing.
use Rattle.std.proofs.Common.{◌≡◌, ℕ, ◌<◌, length, get_or}
use Rattle.rules.specs.Places.{rule_at}
use Rattle.prepare.specs.Prepared.{RowNorm}
use Rattle.prepare.proofs.row_norms.Given as goal

abbrev pub invariant-loop-i : goal.invariant-loop-i
invariant-loop-i l = record {
  size : length l.sums ≡ 252;
  at : (k : ℕ) → k < l.i → RowNorm l.table.norms.now (rule_at l.rules.bytes.now k).after (get_or l.sums k 0);
}
