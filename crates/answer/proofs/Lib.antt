-- Laws of refusals and answers.
pub mod RefusalChains
pub mod Answers
pub mod Results
pub mod ResultChains
pub mod Answered
