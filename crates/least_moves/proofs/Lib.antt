-- Laws of chains of rules.
pub mod ChainsMade
