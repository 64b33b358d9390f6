use Rattle.halves.proofs.KeptRows.{keeping_first, keeping_same, keeping_row, row_fits}
use Rattle.halves.proofs.keep.Goals as goal
use Rattle.halves.proofs.keep.Goals.{then-moved-job, else-moved-job}

pub loop-job-init : goal.loop-job-init
loop-job-init c = keeping_first _ _ _ _ _ c.requires

pub loop-job-preserved : goal.loop-job-preserved
loop-job-preserved c =
    let a = c.args in
    let l = c.loop-job in
    elim c.if-moved-job.branch [
      | then-moved-job w ↦
          rw (w.old-is, w.put.ensures.output)
          (keeping_row a.jobs _ _ a.moved.now a.old.now c.requires l.old l.job l.invariant _ c.loop-job-test.true w.row.ensures)
      | else-moved-job w ↦
          rw w.old-is
          (keeping_same a.jobs _ _ a.moved.now a.old.now c.requires l.old l.job l.invariant c.loop-job-test.true
          w.if-moved-job.false)
    ]

pub put-requires : goal.put-requires
put-requires c = row_fits _ _ _ _ _ c.requires _ _ c.loop-job.invariant _ c.loop-job-test.true c.row.ensures
