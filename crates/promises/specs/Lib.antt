-- What is promised of tables, plans and images.
pub mod Promises
pub mod Calls
pub mod AlikeLists
pub mod LogReplays
pub mod Outcomes
pub mod PlanGrowth
pub mod JoinedTables
pub mod BothAges
pub mod Remainders
pub mod FirstRuns
pub mod WorkedCases
pub mod EveryPromise
