-- Plans followed through a log.
pub mod Followed
