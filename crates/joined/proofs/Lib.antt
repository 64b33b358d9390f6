-- Laws of joined tables.
pub mod RenumberedPlans
pub mod JoinedRules
pub mod JoinedNorms
pub mod StepsThrough
pub mod JoinedSteps
pub mod BetweenTables
pub mod RenamedTables
pub mod ReplacedBoth
pub mod JoinedAnswers
