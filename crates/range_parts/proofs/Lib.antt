pub mod LimitLemmas
pub mod OrderLemmas
pub mod SplitLemmas
pub mod NamedLemmas
pub mod CoverLemmas
pub mod PartLemmas
