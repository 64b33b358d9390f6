-- Plans over two tables.
pub mod PlansOfTwo
