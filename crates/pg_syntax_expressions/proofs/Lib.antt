mod Calls
mod Cases
mod Steps
pub mod Views
