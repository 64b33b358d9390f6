-- Fingerprints of rows.
pub mod Fingerprints
