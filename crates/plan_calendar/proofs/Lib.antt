pub mod DayLemmas
pub mod LastLemmas
pub mod Laws
