-- Laws of jobs as bits.
pub mod BitsOfJobs
