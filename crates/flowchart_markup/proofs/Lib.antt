pub mod EscapeLemmas
pub mod FragmentLemmas
pub mod FillLemmas
