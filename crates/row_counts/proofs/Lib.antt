-- Laws of numbers of rows.
pub mod CountedRows
