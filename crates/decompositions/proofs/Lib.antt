-- Laws of decompositions: single new rows, primes and rounds, rows that stay, the first rows; then that a refinement is complete, and what the last rows give.
pub mod NewRows
pub mod Expansions
pub mod NoNewPrime
pub mod SettledRows
pub mod FirstRows
pub mod CloseSteps
pub mod EqualRows
pub mod Complete
pub mod FinalRows
