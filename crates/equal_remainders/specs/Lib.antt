-- What rules leave, compared by rows.
pub mod EqualRemainders
