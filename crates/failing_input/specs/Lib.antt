pub mod Limits
pub mod Outputs
pub mod SearchTexts
pub mod Searches
pub mod private
