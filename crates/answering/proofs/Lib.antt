-- Laws of rules that agree, and of jobs whose rules answer each other.
pub mod TurnedPair
pub mod EqualJobs
pub mod EqualRules
pub mod AnsweredRules
pub mod BothWays
