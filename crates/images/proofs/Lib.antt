-- Laws of the calls about images.
pub mod ImageBytes
