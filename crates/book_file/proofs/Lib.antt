pub mod Laws
mod RunLemmas
mod PlanLemmas
mod BookLemmas
mod AnswerLemmas
mod ReadLemmas
mod WriteLemmas
mod SoundLemmas
