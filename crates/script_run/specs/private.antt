pub mod LineCounts
pub mod OpenLines
pub mod RunClauses
pub mod RunViews
