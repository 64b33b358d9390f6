-- Laws of the prime rows of a table.
pub mod Tables
