pub mod FaultLaws
mod AddLemmas
