-- Places that rows of bits lead to.
pub mod Linked
