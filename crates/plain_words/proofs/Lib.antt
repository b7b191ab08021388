mod Besides
pub mod Laws
mod RangePlaces
mod Shown
mod StopLemmas
mod WordLemmas
