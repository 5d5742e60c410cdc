pub mod Indexes
pub mod KeptLemmas
pub mod PropertyLemmas
pub mod ValuedIdsLemmas
