-- `left_equal`: by the rows that are asked for, what the two rules leave is compared as it is written out.
use Rattle.std.proofs.Common.{drop}
use Rattle.area.proofs.Parts.{middle_part, rest_part}
use Rattle.rows.specs.Rows.{rows_of}
use Rattle.equal_remainders.specs.EqualRemainders.{rows_for, rest_for}
use Rattle.equal_remainders.proofs.ComparedRemainders.{afters_tell}
use Rattle.equal_remainders.proofs.left_equal.Goals as goal

pub returns-then-falls : goal.returns-then-falls
unfolding rows_for rest_for
returns-then-falls c =
    let a = c.args in
    rw c.if-falls.true
    (afters_tell (rows_of a.new.now) a.rules.now.bytes.now (drop 1 a.parts.now) _ a.r a.s _ _ c.equal_forms.result
    c.after-left.ensures.after c.after-right.ensures.after (rest_part a.parts.now 1) c.equal_forms.ensures)

pub returns-else-falls : goal.returns-else-falls
unfolding rows_for rest_for
returns-else-falls c =
    let a = c.args in
    rw c.if-falls.false
    (afters_tell (rows_of a.old.now) a.rules.now.bytes.now _ _ a.r a.s _ _ c.equal_forms-else-falls.result
    c.after-left.ensures.after c.after-right.ensures.after (middle_part a.old.now.bytes.now a.pair.now.from a.pair.now.to c.requires.both_rows.starts)
    c.equal_forms-else-falls.ensures)
