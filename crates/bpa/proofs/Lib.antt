-- The theorems about tables and plans, from laws of plans to what the answers mean.
pub mod Basics
pub mod Norm
pub mod Rounds
pub mod Judge
pub mod Base
pub mod Forms
pub mod Answers
