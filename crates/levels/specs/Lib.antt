-- The cells of a log, filled from its end.
pub mod Levels
