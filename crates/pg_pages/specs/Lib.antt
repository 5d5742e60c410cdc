pub mod Held
pub mod HeldCode
pub mod Gives
pub mod Kept
