-- Moves that tally alike.
pub mod Alike
