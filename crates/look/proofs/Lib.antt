-- Laws of what the library answers, and of a pair's line.
pub mod JobAnswers
pub mod FirstLine
pub mod PairLine
