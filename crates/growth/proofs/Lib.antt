-- Laws of what a plan can become.
pub mod Totals
pub mod JobSets
pub mod RuleRows
pub mod ReachedExact
pub mod JobsReached
pub mod LongPlans
pub mod BoundedPlans
pub mod PlansListed
pub mod ManyPlans
pub mod GrowthExact
pub mod JobCounts
pub mod SameGrowth
pub mod RulesReordered
pub mod AlikeGrowth
