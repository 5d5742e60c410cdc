pub mod CallLemmas
pub mod FirstLemmas
pub mod NameLemmas
pub mod PartLemmas
pub mod ProjectionLemmas
pub mod SameLemmas
pub mod ScopeLemmas
pub mod StepLemmas
