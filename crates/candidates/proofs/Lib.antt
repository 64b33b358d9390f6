-- Laws of jobs that may decompose another.
pub mod JobsOfTable
pub mod RowEnds
pub mod LikelyJobs
pub mod LoweredRows
