-- The table's line as it is put together. Assumes nothing.
use Rattle.std.proofs.Common.{rules}
use Rattle.look_lines.specs.Lines.{table_line}
use Rattle.look_lines.proofs.Puts.{put_line}
use Rattle.look_lines.proofs.table_line.Goals as goal

pub returns : goal.returns
unfolding table_line
returns c = record { put = put_line (put_line c.put_field-first.ensures.1 c.put_field-next.ensures.1) c.put.ensures; within = search rules }
