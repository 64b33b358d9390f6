-- The n-th move of a plan.
pub mod Shown
pub mod Moves
