-- Laws of rows that are written anew.
pub mod Lengths
pub mod FirstRegion
pub mod KeptRows
