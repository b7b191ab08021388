pub mod FaultViews
pub mod LineViews
pub mod StageViews
