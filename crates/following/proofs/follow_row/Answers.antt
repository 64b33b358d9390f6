-- A row without a job.
use mathlib.Core.Path.{sym}
use lib.ListN.{length}
use borrow.Author.Tests.{eqb-true}
use Rattle.following.proofs.PlanWalk.{follow_none}
use Rattle.following.proofs.follow_row.Goals as goal

pub returns-then-is_empty : goal.returns-then-is_empty
returns-then-is_empty c =
    let row = c.args.row.now in
    follow_none c.args.cells.now row c.args.left c.through.result (eqb-true (length row) 0 (sym c.if-is_empty.ensures)) c.through.ensures
