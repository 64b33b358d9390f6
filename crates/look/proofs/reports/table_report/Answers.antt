-- The first line is that of the table, or of its refusal. Assumes nothing.
use Rattle.std.proofs.Common.{ap, ◌∙◌}
use Rattle.rules.specs.Places.{rule_count}
use Rattle.look.proofs.FirstLine.{refused_first, table_first}
use Rattle.look.proofs.reports.table_report.Goals as goal

pub returns-in-Err : goal.returns-in-Err
returns-in-Err c = refused_first _ c.read.ensures _ c.in-Err.is c.refused_line.ensures

pub returns-in-Ok : goal.returns-in-Ok
returns-in-Ok c =
    table_first _ c.read.ensures _ _ _ c.in-Ok.is c.normed-table.ensures.jobs
    (c.count.ensures.0 ∙ ap rule_count (c.list.ensures.1 ∙ c.normed-table.ensures.rules)) c.table_line.ensures
