-- Growth told by bits.
pub mod Growing
