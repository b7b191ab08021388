pub mod Ranges
pub mod Spots
pub mod private
