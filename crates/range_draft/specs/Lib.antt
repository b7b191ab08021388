pub mod Bounds
pub mod Draft
pub mod private
