pub mod Leaving
pub mod Items
pub mod Members
mod NextClause
pub mod Places
mod Planned
pub mod ReplyLemmas
pub mod Returns
mod Settings
pub mod Spelts
pub mod Tells
pub mod Told
pub mod ValueLemmas
pub mod PrintedInstances
