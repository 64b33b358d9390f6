-- The checks of places by std's words.
pub mod Chunks
