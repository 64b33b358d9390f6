-- Laws of logs as bytes.
pub mod LogMoves
