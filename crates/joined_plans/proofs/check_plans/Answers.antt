-- `joined_plans::check_plans` meets its contract. Assumes nothing.
use Rattle.std.proofs.Common.{rules}
use Rattle.answer.proofs.ResultChains.{err_stops, ok_passes, ok_goes_on}
use Rattle.refusal.proofs.PlanRefusals.{jobs_within}
use Rattle.joined_plans.proofs.check_plans.Goals as goal

pub returns-in_err-check_jobs : goal.returns-in_err-check_jobs
returns-in_err-check_jobs c = err_stops c.check_jobs.result _ _ _ c.in_err-check_jobs.was (search rules) c.check_jobs.ensures

pub returns-in_err-check_jobs-2 : goal.returns-in_err-check_jobs-2
returns-in_err-check_jobs-2 c =
    ok_goes_on c.check_jobs.result _ _ c.in_ok-check_jobs.was c.check_jobs.ensures
    (err_stops c.check_jobs-2.result _ _ _ c.in_err-check_jobs-2.was (search rules) c.check_jobs-2.ensures)

pub check_norm-requires : goal.check_norm-requires
check_norm-requires c =
    let t = c.args.first.now in
    jobs_within t.jobs c.args.left.now t.list.jobs (ok_passes c.check_jobs.result _ c.in_ok-check_jobs.was c.check_jobs.ensures)

pub returns-in_err-check_norm : goal.returns-in_err-check_norm
returns-in_err-check_norm c =
    ok_goes_on c.check_jobs.result _ _ c.in_ok-check_jobs.was c.check_jobs.ensures
    (ok_goes_on c.check_jobs-2.result _ _ c.in_ok-check_jobs-2.was c.check_jobs-2.ensures
    (err_stops c.check_norm.result _ _ _ c.in_err-check_norm.was (search rules) c.check_norm.ensures))

pub check_norm-requires-2 : goal.check_norm-requires-2
check_norm-requires-2 c =
    let t = c.args.second.now in
    jobs_within t.jobs c.args.right.now t.list.jobs (ok_passes c.check_jobs-2.result _ c.in_ok-check_jobs-2.was c.check_jobs-2.ensures)

pub returns : goal.returns
returns c =
    ok_goes_on c.check_jobs.result _ _ c.in_ok-check_jobs.was c.check_jobs.ensures
    (ok_goes_on c.check_jobs-2.result _ _ c.in_ok-check_jobs-2.was c.check_jobs-2.ensures
    (ok_goes_on c.check_norm.result _ c.check_norm-2.result c.in_ok-check_norm.was c.check_norm.ensures c.check_norm-2.ensures))
