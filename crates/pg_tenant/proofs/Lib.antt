pub mod AnswerLemmas
pub mod ChangeLemmas
mod FinishedLemmas
pub mod HolderLemmas
mod IndexLemmas
mod InstanceLemmas
pub mod ListedLemmas
pub mod KeptLemmas
mod LookUpLemmas
pub mod OutcomeLemmas
mod RepliedLemmas
mod ServedLemmas
mod SettingsLemmas
mod SettledLemmas
mod StatusLemmas
pub mod TransactionLemmas
mod PageInstances
