-- The old format beside today's.
pub mod OldPlaces
pub mod Chains
pub mod OldLists
pub mod OldImages
pub mod OldBytes
