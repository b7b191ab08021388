mod FrontLemmas
mod ClassLemmas
mod LongestLemmas
mod WordLemmas
mod NumberLemmas
mod StringLemmas
mod SignLemmas
mod ValueLemmas
mod ReadLemmas
mod OneReadingLemmas
mod AlwaysLemmas
pub mod Laws
