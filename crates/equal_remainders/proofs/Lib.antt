-- Laws of what rules leave, compared by rows.
pub mod ComparedRemainders
