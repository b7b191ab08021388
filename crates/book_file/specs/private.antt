pub mod Views
pub mod WritingViews
