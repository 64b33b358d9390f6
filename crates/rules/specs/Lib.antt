-- Rules as bytes.
pub mod Places
pub mod Lists
