-- Laws of what is written of a catalogue.
pub mod Listed
pub mod TableListing
