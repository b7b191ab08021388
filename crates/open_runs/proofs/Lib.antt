pub mod CauseLemmas
pub mod FilledLemmas
pub mod FirstLemmas
pub mod LineLemmas
pub mod TallyLemmas
