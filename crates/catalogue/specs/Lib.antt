-- The catalogue of work by size.
pub mod Catalogue
