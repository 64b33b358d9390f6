-- The part of a workspace that a call may use.
pub mod Usable
