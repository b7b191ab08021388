mod EntryLemmas
mod FaultLaws
mod FindLemmas
mod FurtherLemmas
mod LineLemmas
mod ReasonLemmas
pub mod Laws
