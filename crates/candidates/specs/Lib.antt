-- Jobs that may decompose another.
pub mod Candidates
