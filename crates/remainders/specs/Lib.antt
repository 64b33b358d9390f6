-- What rules leave, and the norms that are looked up for it.
pub mod Remainders
