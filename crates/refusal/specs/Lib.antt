-- Refusals 6 to 9.
pub mod Refusals
