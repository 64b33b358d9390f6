-- Laws of tables with their moves replaced, as bytes.
pub mod ReplacedPlaces
pub mod NoList
pub mod ListSources
pub mod ListedTables
