-- Laws of rules that are written twice.
pub mod EqualPlaces
pub mod Links
pub mod KeptRules
pub mod MarkedRules
