-- Laws of calls about two tables.
pub mod JoinedCalls
