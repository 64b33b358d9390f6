-- Laws of what rules leave, and of its norm.
pub mod RemainderNorms
