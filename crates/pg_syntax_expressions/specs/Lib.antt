pub mod Nests
pub mod Parts
pub mod ShrinksExpressions
