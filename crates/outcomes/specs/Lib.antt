-- What the call about a choice of outcome answers.
pub mod OutcomeCalls
