pub mod Laws
pub mod TurnLemmas
pub mod ChapterLemmas
pub mod CommentLemmas
pub mod ConditionLemmas
pub mod MarkLemmas
