pub mod CodeDecisions
pub mod DepthViews
pub mod EmitViews
pub mod NameViews
pub mod PlanViews
pub mod SizeViews
pub mod StatementViews
