pub mod LeadLemmas
mod LoopLemmas
pub mod MeaningLemmas
pub mod PlaceLemmas
mod ReturnLemmas
pub mod SameLemmas
mod TextLemmas
pub mod PlanInstances
