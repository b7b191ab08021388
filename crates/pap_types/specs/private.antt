pub mod CheckViews
pub mod DeclarationViews
pub mod FaultViews
pub mod NameViews
pub mod OutlineViews
pub mod PlanViews
pub mod ScopeViews
pub mod StatementViews
