-- Laws of tables without a choice of outcome.
pub mod TestExact
pub mod SingleSteps
pub mod BisimilarRuns
pub mod RunsTell
pub mod RunsListed
pub mod AlikeRuns
