-- The judge of two plans is sound and complete.
pub mod Rows
pub mod Differences
pub mod Candidates
pub mod JudgeTurns
pub mod JudgeMonotone
pub mod JudgeSound
pub mod LiveJobs
pub mod JudgeComplete
