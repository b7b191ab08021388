pub mod Turns
pub mod Comments
pub mod Sites
pub mod Conditions
pub mod Marks
pub mod Captions
pub mod Chapters
pub mod private
