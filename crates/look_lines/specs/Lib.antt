-- What planlook prints.
pub mod Numbers
pub mod Lines
