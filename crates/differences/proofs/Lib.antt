-- Laws of two plans compared by their rows.
pub mod RightSides
pub mod Cursors
