-- Two tables joined.
pub mod Joined
