-- The first rows, and new rows that become the old ones.
pub mod HalvesWritten
