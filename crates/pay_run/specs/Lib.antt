pub mod Accepted
pub mod Runs
pub mod RunClauses
