-- Decompositions, and how they are refined.
pub mod Decompositions
