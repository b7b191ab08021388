pub mod Starts
pub mod Styles
