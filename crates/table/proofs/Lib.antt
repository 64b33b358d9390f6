-- Laws of tables that a call holds, and of images as a source of them.
pub mod ListTables
pub mod ImageTables
pub mod HeldTables
pub mod SourceTables
pub mod AcceptedPlans
pub mod PlanChains
