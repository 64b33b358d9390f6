-- Laws of what is read.
pub mod Reading
pub mod Plans
