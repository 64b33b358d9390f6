-- Laws of the pass over the rules of a list.
pub mod Ways
pub mod PassedRules
pub mod Searches
