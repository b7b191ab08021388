pub mod SideViews
pub mod YearViews
