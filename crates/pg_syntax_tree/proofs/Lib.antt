pub mod Views
pub mod Chains
pub mod FixedParts
