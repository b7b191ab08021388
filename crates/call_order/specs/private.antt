pub mod ContentViews
pub mod LengthViews
pub mod LevelViews
pub mod MarkViews
pub mod OrderViews
