-- Rounds that refine a decomposition.
pub mod Rounds
