pub mod CodeDecisions
pub mod Correct
pub mod Depths
pub mod Heights
pub mod private
