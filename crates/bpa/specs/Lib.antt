-- The meaning of tables and plans, and the method as computable definitions.
pub mod Plans
pub mod Norms
pub mod Bisimilar
pub mod Method
pub mod Bases
