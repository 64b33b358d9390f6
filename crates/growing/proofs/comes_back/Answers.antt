-- The job's bit among what is reached.
use borrow.Author.Tests.{eqb-true, eq-eqb}
use Rattle.bits.specs.Bits.{bit}
use Rattle.growing.proofs.comes_back.Goals as goal

pub returns : goal.returns
unfolding bit
returns c =
    let job = c.args.job in
    let holds = c.closure-back.ensures.holds job in
    let b = bit c.closure-back.result job in
    ((λ e. holds.0 (eqb-true b 1 e)), (λ l. eq-eqb b 1 (holds.1 l)))
