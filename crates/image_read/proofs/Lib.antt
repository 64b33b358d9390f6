-- What the reader holds on its way through an image.
pub mod ReadSoFar
pub mod TakenBlock
