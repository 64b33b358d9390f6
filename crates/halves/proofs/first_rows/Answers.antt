use Rattle.std.proofs.Common.{◌≤◌, ◌<◌, ◌+◌, ◌*◌, ℕ, List, subst, sym, get_or, set, arith}
use Rattle.facts.specs.Columns.{jobs_in, norms_in, order_in}
use Rattle.facts.proofs.TableFacts.{tables, jobs_few}
use Rattle.halves.proofs.FirstRegion.{Filling, part_filled, filling_more, norm_some, filling_last}
use Rattle.halves.proofs.first_rows.Goals as goal

pub loop-job-preserved : goal.loop-job-preserved
loop-job-preserved c =
    let facts = c.args.facts.now in
    let first = get_or (order_in facts) 0 0 in
    let l = c.loop-job in
    let norm = c.norm-norm.result in
    let below : l.job < jobs_in facts = c.loop-job-test.true in
    let some : 1 ≤ norm = omega (arith, norm_some facts l.job below) in
    let small : norm ≤ 512 = omega (arith, (tables facts).small l.job below) in
    let room : 512 * l.job + norm ≤ 12288 = omega (arith, jobs_few facts) in
    let wide = c.from.result in
    subst (λ (rows : List ℕ). Filling (norms_in facts) first (set l.lens l.job norm) rows (l.job + 1))
    (sym (part_filled (512 * l.job) wide first l.rows c.fill.new.self (omega (arith, l.invariant.size, c.from.ensures)) (c.fill.ensures.after (λ y e. e))))
    (rw c.from.ensures (filling_more (norms_in facts) first l.lens l.rows l.job norm (omega arith) some small c.norm-norm.ensures l.invariant))

pub returns : goal.returns
returns c =
    let l = c.loop-job in
    filling_last c.args.facts.now l.lens l.rows l.job (omega arith) l.invariant
