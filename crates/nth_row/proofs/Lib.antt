-- Laws of the row at an index.
pub mod ChosenJobs
