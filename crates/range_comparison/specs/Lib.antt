pub mod Changes
pub mod private
