-- The first run of a plan, job by job.
pub mod PutRows
pub mod PlanRun
