-- Growth by bits is growth.
pub mod AnyJob
pub mod CountedBits
pub mod ReachedBits
