-- `differences::leap` meets its contract. Assumes nothing.
use Rattle.std.proofs.Common.{arith, rules}
use Rattle.rows.proofs.EqualRows.{leap_over}
use Rattle.differences.proofs.leap.Goals as goal

pub returns-then-eq : goal.returns-then-eq
returns-then-eq c =
    leap_over c.args.left.now c.args.k c.args.stop c.args.right.now c.args.at c.args.end (omega arith) (omega arith) c.min-n.result
    (omega arith) (omega arith) (search rules)
