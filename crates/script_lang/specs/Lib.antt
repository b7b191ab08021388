pub mod Words
pub mod Commands
pub mod Fields
pub mod Limits
pub mod Lines
pub mod private
