-- Laws of bytes put into an area, and of two-byte numbers.
pub mod Parts
pub mod Puts
pub mod PutLaws
pub mod Numbers
