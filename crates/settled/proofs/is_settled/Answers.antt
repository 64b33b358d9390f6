-- `settled::is_settled` meets its contract: a prime stays prime; a job that has not moved keeps its row if no job after a rule of its own or of the
-- first job of its row has moved. Assumes nothing.
use Rattle.std.proofs.Common.{rules, arith}
use Rattle.facts.proofs.TableFacts.{jobs_few}
use Rattle.settled.proofs.RowsKept.{first_below, settles_prime, settles_kept}
use Rattle.settled.proofs.is_settled.Goals as goal

pub returns-then-is_alone : goal.returns-then-is_alone
returns-then-is_alone c =
    let a = c.args in
    settles_prime a.facts.now a.old.now a.moved.now a.y c.requires (c.is_alone.ensures.0 c.if-is_alone.true)

pub is_untouched-requires-then-is_untouched : goal.is_untouched-requires-then-is_untouched
is_untouched-requires-then-is_untouched c =
    let a = c.args in
    omega (arith, first_below a.facts.now a.old.now a.moved.now a.y c.requires c.from-x.result c.from-x.ensures, jobs_few a.facts.now)

pub returns-then-is_untouched : goal.returns-then-is_untouched
returns-then-is_untouched c =
    let a = c.args in
    settles_kept a.facts.now a.old.now a.moved.now a.y c.requires c.is_untouched-then-is_untouched.result c.from-x.result (search rules)
    c.from-x.ensures (λ yes. c.is_untouched.ensures c.if-is_untouched.true) c.is_untouched-then-is_untouched.ensures
