pub mod StepLemmas
pub mod PageLemmas
pub mod MarkLemmas
pub mod LineLemmas
