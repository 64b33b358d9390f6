-- Laws of the bits of numbers.
pub mod PlaceBits
pub mod TrailingBits
pub mod BitSums
