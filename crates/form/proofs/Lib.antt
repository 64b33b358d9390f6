-- Laws of writing forms.
pub mod Lengths
pub mod EqualPlans
