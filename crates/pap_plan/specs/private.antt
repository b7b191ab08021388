pub mod AcceptanceClauses
pub mod BindingViews
pub mod BoundViews
