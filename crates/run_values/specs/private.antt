pub mod ValueViews
pub mod OperationViews
