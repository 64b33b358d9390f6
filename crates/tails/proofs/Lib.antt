-- Laws of places that cut a row by the norm before them.
pub mod Tails
