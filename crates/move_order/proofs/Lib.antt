-- Laws of rows of moves, two bytes each.
pub mod FrontOrder
pub mod RowsAsNumbers
