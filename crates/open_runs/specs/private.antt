pub mod Slots
pub mod Tallies
