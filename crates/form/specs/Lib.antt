-- Plans as their rows write them.
pub mod Written
