-- Images: what they hold, when they are refused, and how they are written.
pub mod Image
pub mod Writing
pub mod Checks
pub mod Reading
pub mod Filling
