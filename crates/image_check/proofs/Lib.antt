-- The checks over blocks.
pub mod Chunks
