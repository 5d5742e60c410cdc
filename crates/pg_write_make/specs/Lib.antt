pub mod Bindings
pub mod Creations
pub mod Lent
pub mod Makings
pub mod Outcomes
pub mod Scenes
pub mod Values
