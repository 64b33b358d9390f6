-- A refusal's line as it is put together. Assumes nothing.
use Rattle.std.proofs.Common.{ap, ◌∙◌, rules}
use Rattle.look_lines.specs.Lines.{field, refused_line}
use Rattle.look_lines.proofs.Puts.{put_line, put_as}
use Rattle.look_lines.proofs.refused_line.Goals as goal

pub returns : goal.returns
unfolding refused_line
returns c =
    let refusal = put_as (ap (field _) (c.from.ensures ∙ c.number.ensures)) c.put_field-next.ensures.1 in
    record { put = put_line refusal c.put.ensures; within = search rules }
