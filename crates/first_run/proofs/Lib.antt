-- Laws of the first shortest run.
pub mod DictionaryOrder
pub mod RunParts
pub mod RunsByRules
pub mod JobRuns
pub mod FirstRuns
