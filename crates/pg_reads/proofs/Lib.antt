pub mod Alike
pub mod Lifts
pub mod ReadLemmas
pub mod ReturnedAlike
