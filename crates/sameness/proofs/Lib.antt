-- Laws of the calls about sameness.
pub mod NoListCalls
