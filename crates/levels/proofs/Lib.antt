-- Laws of levels.
pub mod CellChanges
pub mod RulesByLevel
