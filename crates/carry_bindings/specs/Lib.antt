pub mod Carrying
pub mod Filling
pub mod Conditions
pub mod Limits
pub mod private
