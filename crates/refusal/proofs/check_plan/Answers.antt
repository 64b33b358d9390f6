-- `refusal::check_plan` meets its contract. Assumes nothing.
use Rattle.std.proofs.Common.{rules}
use Rattle.answer.proofs.ResultChains.{err_stops, ok_passes, ok_goes_on}
use Rattle.refusal.proofs.PlanRefusals.{jobs_within}
use Rattle.refusal.proofs.check_plan.Goals as goal

pub returns-in_err-check_jobs : goal.returns-in_err-check_jobs
returns-in_err-check_jobs c = err_stops c.check_jobs.result _ _ _ c.in_err-check_jobs.was (search rules) c.check_jobs.ensures

pub check_norm-requires : goal.check_norm-requires
check_norm-requires c =
    let t = c.args.table.now in
    jobs_within t.jobs c.args.plan.now t.list.jobs (ok_passes c.check_jobs.result _ c.in_ok-check_jobs.was c.check_jobs.ensures)

pub returns : goal.returns
returns c = ok_goes_on c.check_jobs.result _ c.check_norm.result c.in_ok-check_jobs.was c.check_jobs.ensures c.check_norm.ensures
