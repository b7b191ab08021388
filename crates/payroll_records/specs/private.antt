pub mod CellViews
pub mod GivenViews
pub mod RowViews
pub mod TableViews
pub mod ValueViews
