pub mod Statements
pub mod private
