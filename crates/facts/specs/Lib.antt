-- What the rounds look up about the jobs of a table.
pub mod Columns
