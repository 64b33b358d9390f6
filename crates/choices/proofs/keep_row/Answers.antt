-- `choices::keep_row` meets its contract: the run that it makes is as long as the norm of its job. Assumes nothing.
use Rattle.std.proofs.Common.{◌≡◌, ◌∙◌, ◌≤◌, ℕ, List, arith, ap, sym, get_or, length-take-le}
use Rattle.rules.specs.Places.{rule_at}
use Rattle.choices.proofs.KeptRows.{made_length}
use Rattle.choices.proofs.keep_row.Goals.{After-make_run-n}
use Rattle.choices.proofs.keep_row.Goals as goal

made_short : (c : After-make_run-n) → c.make_run-n.result ≤ 170
made_short c =
    let t = c.args.table.now in
    let rows = c.args.rows.now in
    let long = made_length t.jobs t.rules.now t.norms.now t.list t.exact t.finite c.args.rule c.requires.lowers rows rows c.requires.chosen.size
    c.make_run-n.result c.make_run-n.new.made _ c.make_run-n.ensures in
    let is : get_or t.norms.now c.job-job.result 0 ≡ get_or t.norms.now (rule_at t.rules.now c.args.rule).job 0 =
    ap (λ (x : ℕ). get_or t.norms.now x 0) (c.job-job.ensures.0 ∙ ap (λ (l : List ℕ). (rule_at l c.args.rule).job) c.list-list.ensures.1) in
    omega (arith, long, is, c.from.ensures)

pub slice_bounds-made-end : goal.slice_bounds-made-end
slice_bounds-made-end c = omega (arith, made_short (goal.at.slice_bounds-made-end c).After-make_run-n, c.make_run-n.auto.made)

pub slice_bounds-put-end : goal.slice_bounds-put-end
slice_bounds-put-end c =
    let short = made_short (goal.at.slice_bounds-put-end c).After-make_run-n in
    sym (length-take-le c.make_run-n.result c.make_run-n.new.made (omega (arith, c.make_run-n.auto.made)))
