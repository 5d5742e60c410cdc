pub mod Codes
pub mod Index
pub mod Trees
