-- Rules that begin alike, and where a pass over a list keeps them.
pub mod RuleTrees
