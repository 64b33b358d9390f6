-- Laws of reaches.
pub mod PutCells
pub mod WordBits
pub mod ReachLaws
