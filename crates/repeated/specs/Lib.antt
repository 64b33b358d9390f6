-- Rules that are written twice.
pub mod Repeated
