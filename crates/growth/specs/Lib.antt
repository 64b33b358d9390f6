-- What a plan can become: whether that is finite, and which jobs it has.
pub mod Growth
pub mod Reached
