-- What the calls about sameness answer.
pub mod SamenessCalls
