pub mod Limits
pub mod BookTexts
pub mod Saving
pub mod BookSays
pub mod BookLaws
pub mod Clauses
pub mod private
