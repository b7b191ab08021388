pub mod Comparisons
pub mod Entries
pub mod Outlines
pub mod private
