-- Laws of fingerprints.
pub mod PrintLaws
pub mod Digits
pub mod Columns
pub mod RuleNumbers
