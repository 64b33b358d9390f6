-- Rows of jobs that are lent. Assumes nothing: these are definitions.
use Rattle.bpa.specs.Method as method
use Rattle.rows.specs.declared.Rows.{Rows}
use Rattle.rows.specs.Region.{row}

-- the rows, as the method has them
abbrev pub rows_of : Rows → method.Rows
rows_of rows = row rows.lens.now rows.bytes.now
