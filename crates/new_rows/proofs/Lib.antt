-- Laws of new rows, job by job in order.
pub mod InOrder
pub mod Flags
pub mod KnownRows
pub mod GrowingRows
