-- The first shortest run of a plan.
pub mod FirstRun
