use Rattle.std.proofs.Common.{◌+◌, ◌*◌, ◌≤◌, take}
use Rattle.area.specs.Areas.{IsPut}
use Rattle.look_lines.specs.Lines.{jobs_text}
use Rattle.look_lines.proofs.put_jobs.Given as goal

-- the jobs so far are put
abbrev pub invariant-loop-job : goal.invariant-loop-job
invariant-loop-job l = record {
  short : l.next ≤ l.at + 4 * l.job-index;
  put : IsPut l.at (jobs_text (take l.job-index l.jobs)) l.fn.line l.next l.line;
}
