pub mod Expressions
pub mod NumberingViews
pub mod PrintingViews
pub mod TreeViews
