-- Laws of logs replayed on plans.
pub mod RunSplits
pub mod Outcomes
pub mod ReplayExact
pub mod EndsLaws
pub mod EndsSay
pub mod ReplayMeaning
