-- Laws of the writer.
pub mod FilledBlock
pub mod WrittenSoFar
