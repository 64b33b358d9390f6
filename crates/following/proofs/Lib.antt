-- Laws of plans followed through a log.
pub mod WordWalk
pub mod JobBehind
pub mod PlanWalk
