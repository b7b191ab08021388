pub mod HalfViews
