pub mod ReadingLemmas
pub mod TallyLemmas
pub mod MoveLemmas
pub mod AlignedLemmas
