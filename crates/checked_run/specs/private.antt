pub mod FitViews
pub mod OperationViews
pub mod ValueViews
pub mod WalkViews
