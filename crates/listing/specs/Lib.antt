-- What is written of a catalogue.
pub mod Listing
