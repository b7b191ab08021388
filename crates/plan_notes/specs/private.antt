pub mod LineViews
pub mod ScanViews
