-- Tables as the calls use them.
pub mod Tables
pub mod CallRefusals
pub mod Sources
