-- `comparing::equal_plans` meets its contract. Assumes nothing.
use Rattle.std.proofs.Common.{◌∙◌, ap, sym, arith}
use Rattle.area.proofs.Parts.{rest_part}
use Rattle.bpa.specs.Method.{expand}
use Rattle.rows.specs.Rows.{rows_of}
use Rattle.rows.proofs.WrittenPlans.{within_readable}
use Rattle.comparing.proofs.WholePlans.{rest_readable, rest_short, front_passed, rest_equal}
use Rattle.comparing.proofs.equal_plans.Goals as goal

pub write_out-end-requires-clause-readable : goal.write_out-end-requires-clause-readable
write_out-end-requires-clause-readable c =
    let rows = c.args.rows.now in
    let asks = c.requires.comparable in
    let right = c.args.right.now in
    rw (rest_part right c.common-n.result)
    (rest_readable rows.lens.now rows.bytes.now right c.common-n.result
    (within_readable asks.jobs rows.lens.now rows.bytes.now right asks.within asks.right))

pub write_out-end-requires-clause-room : goal.write_out-end-requires-clause-room
write_out-end-requires-clause-room c =
    let right = c.args.right.now in
    rw (rest_part right c.common-n.result)
    (omega (arith, rest_short (rows_of c.args.rows.now) right c.common-n.result, c.requires.right_len_bound))

pub is_written-requires : goal.is_written-requires
is_written-requires c =
    let rows = c.args.rows.now in
    let asks = c.requires.comparable in
    let left = c.args.left.now in
    rw (rest_part left c.common-n.result)
    (rest_readable rows.lens.now rows.bytes.now left c.common-n.result
    (within_readable asks.jobs rows.lens.now rows.bytes.now left asks.within asks.left))

pub returns : goal.returns
returns c =
    let e = rows_of c.args.rows.now in
    let left = c.args.left.now in
    let right = c.args.right.now in
    let n = c.common-n.result in
    let written = c.write_out-end.ensures.output ∙ ap (expand e) (rest_part right n) in
    let rest = ap (expand e) (rest_part left n) in (
      λ t. front_passed e left right n c.common-n.ensures.equal (sym rest ∙ c.is_written.ensures.0 t ∙ written),
      λ s. c.is_written.ensures.1 (rest ∙ rest_equal e left right n c.common-n.ensures.equal s ∙ sym written),
    )
