-- The bytes of a move.
pub mod MoveBytes
