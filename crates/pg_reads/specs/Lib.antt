pub mod Reads
pub mod Repeated
