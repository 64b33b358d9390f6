-- What planlook reads.
pub mod Input
