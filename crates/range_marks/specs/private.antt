pub mod InternalViews
