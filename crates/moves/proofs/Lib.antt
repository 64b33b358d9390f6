-- Laws of the moves that a plan shows, and of the n-th of them.
pub mod ShownMoves
pub mod OnlyShown
pub mod OneCombination
pub mod NoSuchMove
pub mod PassedMoves
pub mod NthRule
pub mod JobKept
pub mod PassOverRules
pub mod MoveByRule
