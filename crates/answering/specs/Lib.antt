-- Rules that agree, and what is asked and told of the rules of two jobs.
pub mod Agreeing
pub mod Questions
