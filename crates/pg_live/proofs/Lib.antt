mod HeldLemmas
mod OpeningLemmas
pub mod HolderLemmas
pub mod LiveLemmas
pub mod OpenLemmas
pub mod TurnLemmas
