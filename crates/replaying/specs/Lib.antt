-- A log replayed on a plan.
pub mod Outcomes
