-- A job as it is put. Assumes nothing.
use Rattle.std.proofs.Common.{ap, [], ◌∷◌, arith}
use Rattle.look_lines.specs.Lines.{field}
use Rattle.look_lines.proofs.Parts.{field_length}
use Rattle.look_lines.proofs.Numbers.{number_within}
use Rattle.look_lines.proofs.Puts.{put_as}
use Rattle.look_lines.proofs.put_job.Goals as goal

pub returns : goal.returns
returns c =
    let put = put_as (ap (field (32 ∷ [])) c.from.ensures) c.put_field.ensures.1 in
    (omega (arith, put.next, field_length (32 ∷ []) c.args.job, number_within c.args.job 2 (omega arith)), put)
