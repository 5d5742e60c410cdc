pub mod CodeLemmas
pub mod CodeSteps
pub mod IndexLemmas
pub mod TreeLemmas
pub mod OtherForms
