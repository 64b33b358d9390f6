-- Laws of norms as an array.
pub mod Lesser
pub mod RoundPass
pub mod RuleNorm
pub mod Agreement
pub mod NormsByRounds
pub mod NormedTables
