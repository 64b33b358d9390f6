-- What the call about two tables answers.
pub mod TableCalls
