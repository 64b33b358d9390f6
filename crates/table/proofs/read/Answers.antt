-- `table::read` meets its contract. Assumes nothing.
use Rattle.std.proofs.Common.{rules}
use Rattle.answer.proofs.ResultChains.{ok_passes}
use Rattle.table.proofs.ImageTables.{image_rules}
use Rattle.table.proofs.SourceTables.{layout_refused, layout_passed}
use Rattle.table.proofs.read.Goals as goal

pub returns-in_err-check_layout : goal.returns-in_err-check_layout
returns-in_err-check_layout c = layout_refused c.args.image.now c.check_layout.result c.check_layout.ensures c.in_err-check_layout.was (search rules)

pub read-reader-requires : goal.read-reader-requires
read-reader-requires c = ok_passes c.check_layout.result _ c.in_ok-check_layout.was c.check_layout.ensures

pub hold-requires : goal.hold-requires
hold-requires c =
    image_rules c.args.image.now (ok_passes c.check_layout.result _ c.in_ok-check_layout.was c.check_layout.ensures) c.read-reader.ensures

pub returns : goal.returns
returns c =
    layout_passed c.args.image.now c.check_layout.result c.check_layout.ensures _ c.in_ok-check_layout.was c.read-reader.ensures c.hold.ensures
