-- Laws of the lines.
pub mod Numbers
pub mod Verdicts
pub mod Puts
pub mod Parts
