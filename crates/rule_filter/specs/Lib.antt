-- Rules that may agree.
pub mod RuleFilter
