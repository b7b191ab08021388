pub mod Tallies
pub mod TallyStates
