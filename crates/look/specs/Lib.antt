-- What planlook prints of an image and of pairs.
pub mod Reports
