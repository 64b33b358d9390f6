-- Jobs as bits.
pub mod JobBits
