-- The rows of short jobs.
pub mod Choices
