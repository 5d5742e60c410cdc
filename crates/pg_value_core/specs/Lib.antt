pub mod Given
pub mod Gives
pub mod Hashed
pub mod Parts
pub mod Texts
pub mod View
