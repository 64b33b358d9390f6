-- Laws of the choices.
pub mod KnownJobs
pub mod KeptRows
