-- Laws of what the rounds look up about jobs.
pub mod RepeatedRules
pub mod TableFacts
