pub mod Chapters
pub mod Conditions
pub mod Subjects
