-- Laws of images: what each check gives, what an accepted image holds, and the round trips.
pub mod Refusals
pub mod Blocks
pub mod AcceptedImages
pub mod PlaceRows
pub mod ListRefusal
pub mod HeldTable
pub mod WrittenImages
pub mod BlockParts
pub mod ImageList
pub mod ImageBack
pub mod BlockChecks
pub mod WrittenBlocks
pub mod TableBack
pub mod ByteRows
pub mod TableBytes
pub mod ByteSums
