pub mod Numbers
pub mod RecordLemmas
