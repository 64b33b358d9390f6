-- Laws of tables joined as bytes.
pub mod JoinedSizes
pub mod RenumberedPlaces
pub mod AppendedBytes
pub mod JoinedLists
pub mod JoinedSources
pub mod JoinedResults
