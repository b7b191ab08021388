pub mod OutputViews
pub mod Views
