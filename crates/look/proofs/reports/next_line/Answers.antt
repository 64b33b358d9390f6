-- `look::reports::next_line` meets its contract. Assumes nothing.
use mathlib.Core.Path.{ap}
use native.Mathlib.Omega.{arith}
use borrow.Author.Rules.{rules}
use Rattle.look_input.proofs.Plans.{plan_short}
use Rattle.look_lines.specs.Lines.{end_line}
use Rattle.look_lines.proofs.Puts.{line_as}
use Rattle.look.proofs.PairLine.{ended, ends_left, ends_right, both_whole}
use Rattle.look.proofs.reports.next_line.Goals as goal

pub returns-in_default : goal.returns-in_default
returns-in_default c =
    let p = c.read_pair-read in
    ends_left _ _ _ p.result.left p.result.right p.ensures (ended _ c.in_default.not-Plan) c.end_line-size.ensures

pub returns-in_default-right : goal.returns-in_default-right
returns-in_default-right c =
    let p = c.read_pair-read in
    ends_right _ _ _ p.result.left p.result.right p.ensures _ c.in-Plan.is (ended _ c.in_default-right.not-Plan)
    (line_as (ap end_line c.right_end.ensures) c.end_line-size-in_default-right.ensures)

-- whole plans are no longer than their parts
pub overflow_add-end : goal.overflow_add-end
overflow_add-end c = record { fits = omega (arith, plan_short _ _ c.in-Plan.is c.read_pair-read.ensures.left_read) }

pub overflow_add-stop : goal.overflow_add-stop
overflow_add-stop c = record { fits = omega (arith, plan_short _ _ c.in-Plan-right.is c.read_pair-read.ensures.right_read) }

pub slice_bounds-pair_report-end : goal.slice_bounds-pair_report-end
slice_bounds-pair_report-end c = let h = plan_short _ _ c.in-Plan.is c.read_pair-read.ensures.left_read in search rules

pub slice_bounds-pair_report-end-2 : goal.slice_bounds-pair_report-end-2
slice_bounds-pair_report-end-2 c = let h = plan_short _ _ c.in-Plan-right.is c.read_pair-read.ensures.right_read in search rules

pub returns : goal.returns
returns c =
    let p = c.read_pair-read in
    both_whole _ _ _ p.result.left p.result.right p.ensures _ _ c.in-Plan.is c.in-Plan-right.is c.pair_report-size.ensures
