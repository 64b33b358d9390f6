-- Norms as an array.
pub mod NormArrays
