pub mod Gives
pub mod Shrinks
pub mod ShrinksLaws
pub mod Turns
