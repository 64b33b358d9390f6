-- `images::read_image` meets its contract. Assumes nothing.
use Rattle.std.proofs.Common.{rules}
use Rattle.answer.proofs.ResultChains.{handed, ok_passes}
use Rattle.answer.proofs.Answered.{writes_err, writes_ok}
use Rattle.table.proofs.AcceptedPlans.{seen}
use Rattle.images.proofs.read_image.Goals as goal

pub returns-in_err-held : goal.returns-in_err-held
returns-in_err-held c =
    writes_err c.from_residual.result (handed c.read.result _ _ c.in_err-held.was (search rules) c.read.ensures.refusal_is) c.in_err-held.field-0.0 (search rules)

pub returns : goal.returns
returns c =
    let t = seen c.read.ensures _ c.in_ok-held.was c.normed-table.result c.normed-table.ensures.jobs c.normed-table.ensures.rules in
    writes_ok _ (ok_passes c.read.result _ c.in_ok-held.was c.read.ensures.refusal_is) (rw t at c.write_table.ensures)

pub write_table-requires : goal.write_table-requires
write_table-requires c = c.normed-table.result.list
