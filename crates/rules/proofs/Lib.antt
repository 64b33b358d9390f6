-- Laws of the places of a list of rules: the parts of one rule, and the rules of a table by their positions.
pub mod PlaceLaws
pub mod ListLaws
pub mod Zeros
pub mod PlaceBack
pub mod ChangedPlaces
pub mod TwoBytes
pub mod Greatest
