pub mod PlanViews
pub mod Replies
pub mod StepViews
