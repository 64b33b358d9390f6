-- Logs replayed on plans.
pub mod Replay
pub mod Ends
