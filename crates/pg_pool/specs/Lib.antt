pub mod Values
pub mod Records
pub mod Chunks
pub mod Slab
pub mod Places
pub mod Pages
pub mod Lists
pub mod Tables
