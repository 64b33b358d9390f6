-- `refusal::check_norms` meets its contract. Assumes nothing.
use Rattle.std.proofs.Common.{rules}
use Rattle.answer.specs.Refusals.{number, refusal_of}
use Rattle.refusal.proofs.NormTests.{six, seven, none}
use Rattle.refusal.proofs.check_norms.Goals as goal

pub returns-then-contains : goal.returns-then-contains
unfolding refusal_of number
returns-then-contains c = six c.args.norms.now (search rules)

pub returns-then-any : goal.returns-then-any
unfolding refusal_of number
returns-then-any c = seven c.args.norms.now (search rules) (search rules)

pub returns : goal.returns
unfolding refusal_of
returns c = none c.args.norms.now (search rules) (search rules)
