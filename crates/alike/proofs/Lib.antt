-- Laws of moves that tally alike.
pub mod ReplacedMoves
pub mod ReplacedTables
pub mod AlikeBisimulations
pub mod ListClashes
pub mod ReplacedRuns
