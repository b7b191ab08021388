pub mod CountLemmas
pub mod PlaceLemmas
pub mod TallyLemmas
pub mod Steps
