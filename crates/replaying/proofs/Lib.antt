-- How the answer comes about.
pub mod ReachedAnswers
