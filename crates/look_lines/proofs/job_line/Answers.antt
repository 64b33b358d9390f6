-- A job's line as it is put together. Assumes nothing.
use Rattle.std.proofs.Common.{ap, rules}
use Rattle.look_lines.specs.Lines.{field, job_line}
use Rattle.look_lines.proofs.Puts.{put_line, put_as}
use Rattle.look_lines.proofs.job_line.Goals as goal

pub returns : goal.returns
unfolding job_line
returns c =
    let job = put_as (ap (field _) c.from.ensures) c.put_field-first.ensures.1 in
    record { put = put_line (put_line (put_line job c.put_field-second.ensures.1) c.put_jobs-next.ensures.1) c.put.ensures; within = search rules }
