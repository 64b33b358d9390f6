-- The new row of a job.
pub mod Decomposing
