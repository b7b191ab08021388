pub mod RedoneClauses
pub mod Views
pub mod Drafts
pub mod Groups
pub mod Merges
pub mod Puts
