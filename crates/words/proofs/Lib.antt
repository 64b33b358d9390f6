-- Laws of words.
pub mod PutWords
pub mod WordBytes
