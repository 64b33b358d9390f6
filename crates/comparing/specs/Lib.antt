-- What the steps of a comparison of two plans answer.
pub mod Comparisons
