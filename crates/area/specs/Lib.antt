pub mod Areas
pub mod Numbers
