pub mod Parts
pub mod private
