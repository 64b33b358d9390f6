-- Laws of places that rows of bits lead to.
pub mod PendingJobs
