-- What is worked out once from a list of rules and the norms of its jobs.
pub mod Prepared
