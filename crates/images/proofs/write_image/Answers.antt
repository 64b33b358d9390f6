-- `images::write_image` meets its contract. Assumes nothing.
use Rattle.std.proofs.Common.{arith, rules}
use Rattle.answer.proofs.ResultChains.{handed, ok_passes}
use Rattle.answer.proofs.Answered.{writes_err, writes_ok, short_err, written_ok}
use Rattle.images.proofs.ImageBytes.{list_passed, image_size, image_small}
use Rattle.images.proofs.write_image.Goals as goal

pub returns-in_err-check_rules : goal.returns-in_err-check_rules
returns-in_err-check_rules c =
    writes_err c.from_residual.result (handed c.check_rules.result _ _ c.in_err-check_rules.was (search rules) c.check_rules.ensures) c.in_err-check_rules.field-0.0 (search rules)

pub returns-then-out-rules : goal.returns-then-out-rules
returns-then-out-rules c =
    let z = ok_passes c.check_rules.result _ c.in_ok-check_rules.was c.check_rules.ensures in
    writes_ok _ z (short_err _ _ (omega (arith, image_size _ _ z, c.if-out-rules.true)))

pub write_blocks-requires-clause-rules_value : goal.write_blocks-requires-clause-rules_value
write_blocks-requires-clause-rules_value c = list_passed _ _ (ok_passes c.check_rules.result _ c.in_ok-check_rules.was c.check_rules.ensures)

pub write_blocks-requires-clause-rules_in_bounds : goal.write_blocks-requires-clause-rules_in_bounds
write_blocks-requires-clause-rules_in_bounds c =
    omega (arith, image_size _ _ (ok_passes c.check_rules.result _ c.in_ok-check_rules.was c.check_rules.ensures))

pub overflow_cast-result : goal.overflow_cast-result
overflow_cast-result c =
    omega (arith, c.write_blocks.ensures.next, image_small _ _ (ok_passes c.check_rules.result _ c.in_ok-check_rules.was c.check_rules.ensures))

pub returns : goal.returns
returns c =
    let z = ok_passes c.check_rules.result _ c.in_ok-check_rules.was c.check_rules.ensures in
    writes_ok _ z (written_ok _ _ _ (omega (arith, image_size _ _ z, c.if-out-rules.false)) (omega (arith, c.write_blocks.ensures.next)) c.write_blocks.ensures.output)
