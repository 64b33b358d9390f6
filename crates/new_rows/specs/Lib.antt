-- The new rows of all jobs.
pub mod NewRows
