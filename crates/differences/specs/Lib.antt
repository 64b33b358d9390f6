-- Two plans compared by their rows.
pub mod Sides
