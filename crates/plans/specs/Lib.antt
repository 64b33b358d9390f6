-- What the calls about one plan answer.
pub mod PlanCalls
