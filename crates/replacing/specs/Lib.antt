-- Tables with their moves replaced, as bytes.
pub mod ReplacedMoves
