-- Refusals in checking order, and what calls give back and leave behind.
pub mod Refusals
pub mod Answer
