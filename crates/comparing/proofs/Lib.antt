-- Laws of the comparison of two plans.
pub mod CommonFronts
pub mod WrittenOut
pub mod Rests
pub mod WholePlans
