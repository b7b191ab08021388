pub mod LineViews
