-- Alike lists as bytes, and tables under them.
pub mod AlikeLists
pub mod PairArrays
pub mod AlikeTables
