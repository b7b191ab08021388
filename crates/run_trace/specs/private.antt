pub mod TextViews
pub mod TellingViews
pub mod PageViews
pub mod MarkTallies
pub mod MarkViews
