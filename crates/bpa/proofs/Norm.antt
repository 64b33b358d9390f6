-- Norms by rounds are the fewest moves.
pub mod KnownPlans
pub mod NormRounds
pub mod NormStable
pub mod RunLengths
pub mod NormExact
pub mod GoodTable
pub mod NormFewest
pub mod NormCap
