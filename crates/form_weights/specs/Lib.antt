-- The weights of jobs as an array.
pub mod Weighed
