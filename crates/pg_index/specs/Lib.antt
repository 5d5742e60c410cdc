pub mod Index
pub mod Kept
pub mod Properties
pub mod ValuedIds
