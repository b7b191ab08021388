pub mod Adapters
pub mod Fields
pub mod Json
pub mod Lines
pub mod Objects
pub mod Turns
pub mod private
