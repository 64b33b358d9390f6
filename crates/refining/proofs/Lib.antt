-- Laws of rounds.
pub mod AgreeingRows
pub mod RoundLaws
