pub mod Gathered
pub mod Items
pub mod Maps
pub mod Parts
pub mod Targets
pub mod Mergings
pub mod Ready
