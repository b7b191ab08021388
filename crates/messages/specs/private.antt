pub mod Cuts
pub mod ObjectViews
