pub mod Live
pub mod Indexes
pub mod LiveCode
pub mod Settled
pub mod Opening
pub mod Held
