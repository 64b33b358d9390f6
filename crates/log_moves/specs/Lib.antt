-- Logs as bytes.
pub mod Logs
