-- Laws of rules that lower a norm by one, and of the runs by them.
pub mod LoweringRules
pub mod SmallMoves
pub mod ShortRows
