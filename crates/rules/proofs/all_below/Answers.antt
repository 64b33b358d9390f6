-- `rules::all_below` meets its contract. Assumes nothing.
use Rattle.std.proofs.Common.{◌≡◌, ◌∙◌, ℕ, ◌<◌, length, sym, ap, nat_lt, rules}
use Rattle.rules.proofs.Greatest.{greatest_none, greatest_more, greatest_all, empty_below}
use Rattle.rules.proofs.all_below.Goals as goal

pub loop-byte-init : goal.loop-byte-init
loop-byte-init c = greatest_none c.args.bytes.now

pub loop-byte-preserved : goal.loop-byte-preserved
loop-byte-preserved c =
    greatest_more c.args.bytes.now c.loop-byte.most c.loop-byte.byte-index c.max-most.result c.loop-byte.invariant c.loop-byte-test.true
    c.max-most.ensures

pub returns-then-is_empty : goal.returns-then-is_empty
returns-then-is_empty c =
    let none : length c.args.bytes.now ≡ 0 = search rules in
    c.if-is_empty.true ∙ sym (empty_below c.args.bytes.now none c.args.bound)

pub returns-else-is_empty : goal.returns-else-is_empty
returns-else-is_empty c =
    let some : 0 < length c.args.bytes.now = search rules in
    ap (λ (m : ℕ). nat_lt m c.args.bound) c.from.ensures
    ∙ sym (greatest_all c.args.bytes.now c.loop-byte.most c.loop-byte.byte-index c.loop-byte.invariant c.loop-byte-test.false c.args.bound some)
