-- Laws of the order of jobs.
pub mod Insertion
pub mod OrderedJobs
