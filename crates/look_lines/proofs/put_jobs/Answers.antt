-- Jobs as they are put. Assumes nothing.
use Rattle.std.proofs.Common.{◌≡◌, ap, length, arith, rules}
use lib.Seq.{take_all}
use Rattle.look_lines.specs.Lines.{jobs_text}
use Rattle.look_lines.proofs.Puts.{put_nothing, put_both, put_as}
use Rattle.look_lines.proofs.Parts.{next_job}
use Rattle.look_lines.proofs.put_jobs.Goals as goal

pub loop-job-init : goal.loop-job-init
unfolding jobs_text
loop-job-init c = record { short = search rules; put = put_nothing _ _ }

pub loop-job-preserved : goal.loop-job-preserved
loop-job-preserved c =
    let l = c.loop-job in
    let p = c.put_job-next in
    record {
      short = omega arith;
      put = put_as (next_job c.args.jobs.now l.job-index (search rules)) (put_both (search rules) l.invariant.put p.ensures.1);
    }

pub returns : goal.returns
returns c =
    let l = c.loop-job in
    let all : l.job-index ≡ length c.args.jobs.now = omega arith in
    (omega arith, put_as (ap jobs_text (take_all l.job-index c.args.jobs.now (omega arith))) l.invariant.put)
