-- Laws of runs that are put together.
pub mod RunWalk
pub mod KeptRuns
