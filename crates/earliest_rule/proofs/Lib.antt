-- Laws of the search for the earliest run.
pub mod EarliestRule
