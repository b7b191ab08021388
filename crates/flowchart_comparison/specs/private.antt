pub mod AlignmentViews
pub mod NameViews
pub mod OutlineViews
