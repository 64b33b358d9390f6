-- Laws of plans over two tables.
pub mod PlansBetween
pub mod NumberedPlans
