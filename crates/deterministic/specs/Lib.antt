-- Tables without a choice of outcome.
pub mod Deterministic
pub mod CompleteRuns
