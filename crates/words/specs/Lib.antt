-- Words of eight bytes.
pub mod Words
