pub mod Answers
pub mod Fronts
pub mod Laws
pub mod Lines
pub mod Refusals
pub mod Replies
pub mod private
