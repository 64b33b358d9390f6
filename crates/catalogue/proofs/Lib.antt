-- Laws of the catalogue.
pub mod BegunRows
pub mod WeightedRows
pub mod RowCounts
pub mod LowestWeights
pub mod RisingRows
pub mod CatalogueExact
