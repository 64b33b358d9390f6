-- Matching for n rounds: congruence, reductions, cancellation.
pub mod Approximants
pub mod Reductions
pub mod Cancellation
pub mod Equivalence
