-- The jobs of a table in order.
pub mod Order
