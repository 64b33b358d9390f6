-- The row of a weight at an index.
pub mod Rows
