pub mod Membership
pub mod Texts
