pub mod Changes
pub mod Trials
pub mod TrialLaws
pub mod private
