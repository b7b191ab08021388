pub mod Refusals
pub mod TableCoverages
pub mod private
