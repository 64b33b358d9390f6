-- Laws of alike lists as bytes.
pub mod MoveRows
pub mod PairLists
pub mod FilledRows
pub mod CountedMoves
pub mod ReadPairs
pub mod ListRefusals
