-- `comparing::copy_row` meets its contract. Assumes nothing.
use Rattle.std.proofs.Common.{◌+◌, ◌∙◌, ap, take, arith}
use Rattle.comparing.proofs.WrittenOut.{copied_front}
use Rattle.comparing.proofs.copy_row.Goals as goal

pub returns-then-out-to-ge16 : goal.returns-then-out-to-ge16
returns-then-out-to-ge16 c =
    ap (take (c.args.to + c.args.len)) c.put.ensures.output
    ∙ copied_front c.args.from.now c.args.out.now c.args.to c.args.len 16 (omega arith) (omega arith) (omega arith)

pub returns-else-len-le16 : goal.returns-else-len-le16
returns-else-len-le16 c =
    ap (take (c.args.to + c.args.len)) c.put-else-len-le16.ensures.output
    ∙ copied_front c.args.from.now c.args.out.now c.args.to c.args.len c.args.len (omega arith) (omega arith) (omega arith)
