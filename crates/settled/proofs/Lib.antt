-- Laws of jobs whose new row is their old one: the rules of a job that were passed, and what the answers say.
pub mod ChainsPassed
pub mod RowsKept
