pub mod Books
pub mod Refusals
pub mod Kept
pub mod Replans
pub mod Loads
pub mod RedoneClauses
pub mod private
