pub mod Forms
pub mod Memberships
pub mod Steps
pub mod Tables
pub mod TextLemmas
