-- What the prime rows of a table give.
pub mod Engine
