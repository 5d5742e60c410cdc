pub mod Answers
pub mod Pieces
pub mod ShrinksClauses
pub mod ShrinksPatterns
