pub mod Feeding
pub mod Entries
pub mod Planned
pub mod LookUps
pub mod Capacity
pub mod Seen
pub mod CacheInstances
