-- Laws of refusals 6 to 9, and of what none of them meets.
pub mod TableRefusals
pub mod NormArray
pub mod PlanRefusals
pub mod NormTests
