-- Numbers as sets of places.
pub mod Bits
