pub mod OutputLemmas
pub mod PartLemmas
pub mod SampleLemmas
pub mod StateLemmas
pub mod WholeLemmas
