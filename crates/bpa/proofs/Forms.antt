-- Prime forms are there, unique and longest.
pub mod LeastPair
pub mod PrimeRows
pub mod LowestJobs
pub mod UniqueForms
pub mod PrimeForms
pub mod FormMeaning
