-- `images::write_table` meets its contract. Assumes nothing.
use Rattle.std.proofs.Common.{length, ap, arith}
use Rattle.answer.proofs.Answered.{short_err, written_ok}
use Rattle.images.proofs.ImageBytes.{listed_bytes, behind_count}
use Rattle.images.proofs.write_table.Goals as goal

pub returns-then-out-rules : goal.returns-then-out-rules
returns-then-out-rules c =
    let bytes = listed_bytes c.args.jobs c.args.rules.now c.requires (λ i. omega (arith, c.type_inv.rules i)) in
    short_err _ _ (omega (arith, ap length bytes, c.if-out-rules.true))

pub returns : goal.returns
returns c =
    let (n, d) = behind_count c.args.jobs c.args.rules.now c.args.out.now (omega arith) c.put.ensures in
    rw (listed_bytes c.args.jobs c.args.rules.now c.requires (λ i. omega (arith, c.type_inv.rules i)))
    (written_ok _ c.args.out.now _ (omega arith) n d)
