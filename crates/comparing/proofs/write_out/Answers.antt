-- `comparing::write_out` meets its contract. Assumes nothing.
use Rattle.std.proofs.Common.{◌≡◌, ◌∙◌, ap, sym, ◌+◌, ◌*◌, ℕ, List, length, take, drop, ◌++◌, arith}
use Rattle.area.proofs.Parts.{rest_part}
use Rattle.rows.specs.Region.{row}
use Rattle.rows.specs.Rows.{rows_of}
use Rattle.rows.proofs.WrittenPlans.{row_long}
use Rattle.comparing.proofs.WrittenOut.{out_last, out_fits, out_more}
use Rattle.comparing.proofs.write_out.Goals as goal

pub copy_row-requires-clause-room : goal.copy_row-requires-clause-room
copy_row-requires-clause-room c =
    let rows = c.args.rows.now in
    let l = c.loop-job in
    let x = c.from-job.result in
    omega (
      arith,
      c.len_of-len.ensures.is,
      row_long rows.lens.now rows.bytes.now c.args.plan.now c.requires.readable l.job-index c.loop-job-test.true x c.from-job.ensures,
      out_fits (rows_of rows) c.args.plan.now l.out l.end l.job-index l.invariant c.loop-job-test.true (rows_of rows x) (ap (rows_of rows) c.from-job.ensures),
    )

pub loop-job-preserved : goal.loop-job-preserved
unfolding row
loop-job-preserved c =
    let rows = c.args.rows.now in
    let l = c.loop-job in
    let x = c.from-job.result in
    let len : length (rows_of rows x) ≡ c.len_of-len.result =
    row_long rows.lens.now rows.bytes.now c.args.plan.now c.requires.readable l.job-index c.loop-job-test.true x c.from-job.ensures
    ∙ sym c.len_of-len.ensures.is in
    let written : take (l.end + c.len_of-len.result) c.copy_row.new.out ≡ take l.end l.out ++ rows_of rows x =
    c.copy_row.ensures
    ∙ ap (λ (r : List ℕ). take l.end l.out ++ take c.len_of-len.result r) (rest_part rows.bytes.now (512 * x))
    ∙ ap (λ (n : ℕ). take l.end l.out ++ take n (drop (512 * x) rows.bytes.now)) c.len_of-len.ensures.is in
    rw (sym len)
    (out_more (rows_of rows) c.args.plan.now l.out l.end l.job-index l.invariant c.loop-job-test.true (rows_of rows x)
    (ap (rows_of rows) c.from-job.ensures) c.copy_row.new.out (rw len written))

pub returns : goal.returns
returns c = out_last (rows_of c.args.rows.now) c.args.plan.now c.loop-job.out c.loop-job.end c.loop-job.job-index c.loop-job.invariant c.loop-job-test.false
