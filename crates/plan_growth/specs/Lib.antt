-- What the call about growth answers.
pub mod GrowthCalls
