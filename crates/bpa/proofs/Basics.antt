-- Tests, lists of jobs, plans, moves and the order of jobs.
pub mod Cases
pub mod Zeros
pub mod EachJob
pub mod Counting
pub mod JobsBelow
pub mod Plans
pub mod Moves
pub mod Order
pub mod SameSteps
