-- The base by rounds is exact, so the method decides.
pub mod MatchedMoves
pub mod FullBase
pub mod Pairs
pub mod Refinement
pub mod StableBase
pub mod ExactBase
pub mod MethodDecides
