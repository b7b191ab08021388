pub mod ItemDecisions
pub mod ItemViews
pub mod LineViews
pub mod NumberViews
pub mod SavedBooks
