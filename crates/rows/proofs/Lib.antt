-- Laws of lists and rows that the functions' proofs cite.
pub mod Heads
pub mod Parts
pub mod LentRows
pub mod EqualRows
pub mod WrittenPlans
pub mod OneRow
pub mod JobsAlone
