-- `Rows::write_expansion` meets its contract. Assumes nothing.
use Rattle.std.proofs.Common.{◌∙◌, ap, sym, subst, ◌+◌, ℕ, List}
use Rattle.area.specs.Areas.{put}
use Rattle.rows.specs.Rows.{rows_of}
use Rattle.rows.proofs.WrittenPlans.{Writing, writing_first, row_fits, writing_more, writing_last}
use Rattle.rows.proofs.Rows.write_expansion.Goals as goal

pub loop-job-init : goal.loop-job-init
loop-job-init c = writing_first (rows_of c.args.self.now) c.args.plan.now c.args.out.now c.args.at

pub put-end-requires : goal.put-end-requires
put-end-requires c =
    let e = rows_of c.args.self.now in
    let l = c.loop-job in
    row_fits e c.args.plan.now c.args.out.now c.args.at c.requires.plan_in_bounds l.out l.end l.job-index l.invariant c.loop-job-test.true
    c.row.result.now (c.row.ensures ∙ ap e c.from.ensures)

pub loop-job-preserved : goal.loop-job-preserved
loop-job-preserved c =
    let e = rows_of c.args.self.now in
    let l = c.loop-job in
    let row = c.row.result.now in
    let said = c.put-end.ensures in
    let written = writing_more e c.args.plan.now c.args.out.now c.args.at c.requires.plan_in_bounds l.out l.end l.job-index l.invariant
    c.loop-job-test.true row (c.row.ensures ∙ ap e c.from.ensures) in
    subst (λ (out : List ℕ). Writing e c.args.plan.now c.args.out.now c.args.at out c.put-end.result (l.job-index + 1)) (sym said.output)
    (subst (λ (end : ℕ). Writing e c.args.plan.now c.args.out.now c.args.at (put l.end row l.out) end (l.job-index + 1)) (sym said.next) written)

pub returns : goal.returns
returns c =
    let l = c.loop-job in
    writing_last (rows_of c.args.self.now) c.args.plan.now c.args.out.now c.args.at l.out l.end l.job-index c.loop-job-test.false l.invariant
