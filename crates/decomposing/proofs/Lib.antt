-- Laws of the new row of a job: the lowered row, rules by their places, fingerprints, tails, and the jobs tried so far.
pub mod RulePlaces
pub mod EqualPrints
pub mod FoundTails
pub mod JobsTried
pub mod Turns
pub mod PairsAsked
pub mod PassedJobs
