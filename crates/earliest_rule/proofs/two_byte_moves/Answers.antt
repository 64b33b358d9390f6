-- `earliest_rule::two_byte_moves` meets its contract: a move is its low byte and 256 times its high one. Assumes nothing.
use Rattle.std.proofs.Common.{◌+◌, ◌*◌, arith}
use Rattle.rules.proofs.PlaceLaws.{move_at}
use Rattle.earliest_rule.proofs.two_byte_moves.Goals as goal

pub returns : goal.returns
returns c i l = omega (arith, move_at c.args.rules.now i, c.type_inv.rules (8 * i + 1), c.type_inv.rules (8 * i + 7))
