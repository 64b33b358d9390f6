-- `log_moves::check` meets its contract. Assumes nothing.
use Rattle.std.proofs.Common.{arith}
use Rattle.std.proofs.lemmas.Bool.Decides.{nat_tests}
use Rattle.answer.specs.Refusals.{refusal_of, number}
use Rattle.log_moves.specs.Logs.{log_refusal}
use Rattle.log_moves.proofs.check.Goals as goal

pub returns-then-log-gt-MOVES : goal.returns-then-log-gt-MOVES
unfolding refusal_of number log_refusal
returns-then-log-gt-MOVES c = grind (arith, nat_tests)

pub returns : goal.returns
unfolding refusal_of number log_refusal
returns c = grind (arith, nat_tests)
