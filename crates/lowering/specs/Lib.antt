-- Rules that lower a norm by one.
pub mod Lowering
