pub mod Contract
pub mod Cuts
pub mod Ends
pub mod Parts
