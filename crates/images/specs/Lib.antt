-- What the calls about images answer.
pub mod ImageCalls
