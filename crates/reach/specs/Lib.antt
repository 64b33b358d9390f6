-- What a plan reaches in a log.
pub mod Cells
pub mod Reaches
