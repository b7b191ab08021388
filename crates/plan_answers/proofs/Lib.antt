pub mod Laws
mod AnswerLemmas
mod FrontLemmas
mod LineLemmas
mod PlaceLemmas
mod ReplyLemmas
