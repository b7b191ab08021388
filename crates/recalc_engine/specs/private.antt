pub mod BookLaws
pub mod JobViews
pub mod ValueViews
