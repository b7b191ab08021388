pub mod OutputViews
pub mod PartViews
pub mod SampleViews
