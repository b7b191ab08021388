pub mod DraftViews
