pub mod Cache
pub mod Digests
pub mod InstancesOfCaches
pub mod Keys
