-- Laws of searches among the rules of a list, of chains and of norm-lowering rules.
pub mod FirstRule
pub mod FirstRuleArray
pub mod LentTables
pub mod LoweringRules
pub mod Chains
pub mod ChainsMade
pub mod Marks
pub mod PassedRules
