pub mod Laws
pub mod EdgeLemmas
pub mod Spaces
pub mod WalkLemmas
pub mod NoteLemmas
pub mod AttributeLemmas
