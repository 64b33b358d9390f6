-- Chains of rules.
pub mod Chains
