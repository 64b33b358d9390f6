-- Rows of jobs in a byte region, and what the functions over them answer.
pub mod Region
pub mod Rows
pub mod Answers
