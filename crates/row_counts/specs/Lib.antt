-- Numbers of rows.
pub mod Counts
