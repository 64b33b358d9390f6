-- The format of images before moves had two bytes.
pub mod OldFormat
