-- Tables joined, as bytes.
pub mod JoinedBytes
pub mod JoinedResults
